-- The copying of a formula's clauses.
use Rattle.std.specs.Prelude.{◌≡◌, ℕ, [], ◌∷◌, ◌++◌}
use Rattle.sdcl_store.specs.Slots.{Slots, slot_at, live}
use Rattle.sdcl_rup.specs.Base.{Base}

-- the clause of slot n, if it has one, is added too
pub record Copies (slots : Slots) (b d : Base) (n : ℕ) : Type 0 where
  pub clauses : d.clauses ≡ b.clauses ++ live (slot_at slots n ∷ [])
  pub covered : d.covered ≡ b.covered
