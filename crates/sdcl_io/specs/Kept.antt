-- The files that a world over a runtime keeps open, and what its calls do to them.
use Rattle.std.specs.Prelude.{◌≡◌, ℕ, List, Option, None, Some, Result, OnErr}
use Rattle.std.specs.Io.KnownBytes.{ReadConsumes, WriteAppends}
use Rattle.sdcl_io.specs.declared.world.InRole.{InRole}
use Rattle.sdcl_io.specs.declared.world.OutRole.{OutRole}
use Rattle.sdcl_io.specs.declared.world.OutRole.TheVariants as output
use Rattle.sdcl_io.specs.declared.world.Failed.{Failed}
use Rattle.sdcl_io.specs.declared.std_world.Streams.{Streams}
use Rattle.sdcl_io.specs.StdSeen.{in_slot}

-- what is known of a file, where one is kept
abbrev pub of_kept : {F : Type 0} → (F → Option (List ℕ)) → Option F → Option (List ℕ)
of_kept known None = None
of_kept known (Some f) = known f

module _ {F : Type 0} where
  abbrev pub in_file : Streams F → InRole → Option F
  in_file s role = (in_slot s role).file

  abbrev pub out_file : Streams F → OutRole → Option F
  out_file s output.Out = None
  out_file s output.Err = None
  out_file s output.Proof = s.proof.file
  out_file s output.Journal = s.journal.file

  -- No kept file but this input has changed.
  pub record KeepsButInput (role : InRole) (s t : Streams F) : Type 0 where
    pub inputs : (r : InRole) → (r ≡ role → ⊥) → in_file t r ≡ in_file s r
    pub outputs : (r : OutRole) → out_file t r ≡ out_file s r

  -- No kept file but this output has changed.
  pub record KeepsButOutput (role : OutRole) (s t : Streams F) : Type 0 where
    pub inputs : (r : InRole) → in_file t r ≡ in_file s r
    pub outputs : (r : OutRole) → (r ≡ role → ⊥) → out_file t r ≡ out_file s r

  -- An opening changed the role's file alone, and none where it failed.
  pub record OpensKept (role : InRole) (s t : Streams F) (result : Result Unit Failed) : Type 0 where
    pub only : KeepsButInput role s t
    pub failed : OnErr result (in_file t role ≡ in_file s role)

  -- A creation changed the role's file alone, and none where it failed.
  pub record CreatesKept (role : OutRole) (s t : Streams F) (result : Result Unit Failed) : Type 0 where
    pub only : KeepsButOutput role s t
    pub failed : OnErr result (out_file t role ≡ out_file s role)

  -- A read gave the next bytes of the role's file, as many as it says.
  pub record ReadsKept (remaining : F → Option (List ℕ)) (role : InRole) (s t : Streams F) (result : Result ℕ Failed) (buf : List ℕ) : Type 0 where
    pub bytes : ReadConsumes (of_kept remaining (in_file s role)) (of_kept remaining (in_file t role)) result buf
    pub only : KeepsButInput role s t

  -- A write appended the first of the bytes to the role's file, as many as it says.
  pub record WritesKept (contents : F → Option (List ℕ)) (role : OutRole) (s t : Streams F) (result : Result ℕ Failed) (bytes : List ℕ) : Type 0 where
    pub text : WriteAppends (of_kept contents (out_file s role)) (of_kept contents (out_file t role)) result bytes
    pub only : KeepsButOutput role s t
