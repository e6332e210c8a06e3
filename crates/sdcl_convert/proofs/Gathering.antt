-- The steps of a proof, gathered while it is judged.
use Rattle.std.proofs.Common.{◌≡◌, ◌+◌, ℕ, true, false, List, [], ◌∷◌, ◌++◌, map, refl, sym, ap, subst, ◌∙◌, inl, inr, Ok, Err, Some, None}
use Rattle.std.proofs.lemmas.List.{map-append}
use Rattle.sdcl_base.specs.Literal.{Clause}
use Rattle.sdcl_base.specs.Propagation.{refutes}
use Rattle.sdcl_io.specs.Step.{Step}
use Rattle.sdcl_proof.specs.Steps.{step_of}
use Rattle.sdcl_proof.specs.Stepping.{Stepping, IsUnfailed, GivesStep}
use Rattle.sdcl_proof.specs.declared.step.Step.{Step as Coded}
use Rattle.sdcl_proof.specs.declared.fault.ProofError.{ProofError}
use Rattle.sdcl_proof.specs.declared.fault.ProofError.TheVariants as error
use Rattle.sdcl_prcheck.specs.Taking.{IsTaken}
use Rattle.sdcl_prcheck.specs.declared.taking.Taken.TheVariants.{Invalid, Going, Closing}
use Rattle.sdcl_prcheck.specs.declared.verdict.Verdict.TheVariants as verdict
use Rattle.sdcl_prcheck.proofs.Judging.{Judging, judging_first, judging_on, judging_stops, judging_fails, judging_refuses, judging_closes, judging_ends, judging_lacks, nothing_judged, first_takes, on_takes, closes_takes, ends_takes}
use Rattle.sdcl_convert.specs.Loading.{Collects, LoadsProof, KeepsProof, SaysVerified, IsRefutation}
use Rattle.sdcl_convert.specs.declared.loading.Loaded.{Loaded}
use Rattle.sdcl_convert.specs.declared.loading.Loaded.TheVariants as loaded

-- ---- the steps

-- Where the judging of a proof stands, and the steps that were taken.
pub record Gathering (f clauses : List Clause) (count : ℕ) (kept : List Coded) (r s : Stepping) : Type 0 where
  pub judging : Judging f clauses count r s
  pub same : judging.taken ≡ map step_of kept

pub gathering_first : (f : List Clause) (r : Stepping) (kept : List Coded) → kept ≡ [] → IsUnfailed r → Gathering f f 0 kept r r
gathering_first f r kept e h = record { judging = judging_first f r h; same = first_takes f r h ∙ ap (map step_of) (sym e) }

kept_more : (taken : List Step) (kept after : List Coded) (step : Coded) → taken ≡ map step_of kept → after ≡ kept ++ step ∷ [] → taken ++ step_of step ∷ [] ≡ map step_of after
kept_more taken kept after step e p = ap (λ z. z ++ step_of step ∷ []) e ∙ sym (map-append step_of kept (step ∷ [])) ∙ ap (map step_of) (sym p)

pub gathering_on : (f c d : List Clause) (n m : ℕ) (kept after : List Coded) (r s t : Stepping) (step : Coded) → Gathering f c n kept r s → GivesStep s t (Ok (Some step)) → IsTaken c d (step_of step) Going
    → m ≡ n + 1 → after ≡ kept ++ step ∷ [] → Gathering f d m after r t
gathering_on f c d n m kept after r s t step h g k e p = record { judging = judging_on f c d n m r s t step h.judging g k e; same = on_takes f c d n m r s t step h.judging g k e ∙ kept_more h.judging.taken kept after step h.same p }

pub collects_closing : (f c d : List Clause) (n : ℕ) (kept after : List Coded) (r s t : Stepping) (step : Coded) → Gathering f c n kept r s → GivesStep s t (Ok (Some step)) → IsTaken c d (step_of step) Closing
    → after ≡ kept ++ step ∷ [] → Collects f after r t (Ok verdict.Verified)
collects_closing f c d n kept after r s t step h g k p = record {
  clauses = d;
  checks = judging_closes f c d n r s t step h.judging g k;
  collected = λ q. closes_takes f c d n r s t step h.judging g k ∙ kept_more h.judging.taken kept after step h.same p;
}

pub collects_end : (f c : List Clause) (n : ℕ) (kept : List Coded) (r s t : Stepping) → Gathering f c n kept r s → GivesStep s t (Ok None) → refutes c [] ≡ true → Collects f kept r t (Ok verdict.Verified)
collects_end f c n kept r s t h g k = record { clauses = c; checks = judging_ends f c n r s t h.judging g k; collected = λ q. ends_takes f c n r s t h.judging g k ∙ h.same }

pub collects_invalid : (f c d : List Clause) (n k : ℕ) (kept after : List Coded) (r s t : Stepping) (step : Coded) → Gathering f c n kept r s → GivesStep s t (Ok (Some step)) → IsTaken c d (step_of step) Invalid
    → k ≡ n + 1 → Collects f after r t (Ok (verdict.NotVerified k))
collects_invalid f c d n k kept after r s t step h g j e = record { clauses = d; checks = judging_refuses f c d n k r s t step h.judging g j e; collected = λ q. absurd (cc) }

pub collects_lack : (f c : List Clause) (n k : ℕ) (kept after : List Coded) (r s t : Stepping) → Gathering f c n kept r s → GivesStep s t (Ok None) → refutes c [] ≡ false → k ≡ n + 1
    → Collects f after r t (Ok (verdict.NotVerified k))
collects_lack f c n k kept after r s t h g j e = record { clauses = c; checks = judging_lacks f c n k r s t h.judging g j e; collected = λ q. absurd (cc) }

pub collects_stop : (f c : List Clause) (n : ℕ) (kept after : List Coded) (r s t : Stepping) (step : Coded) → Gathering f c n kept r s → GivesStep s t (Ok (Some step)) → Collects f after r t (Err error.NoMemory)
collects_stop f c n kept after r s t step h g = record { clauses = c; checks = judging_stops f c c n r s t step h.judging g refl; collected = tt }

pub collects_fail : (f c : List Clause) (n : ℕ) (kept after : List Coded) (r s t : Stepping) (e : ProofError) → Gathering f c n kept r s → GivesStep s t (Err e) → Collects f after r t (Err e)
collects_fail f c n kept after r s t e h g = record { clauses = c; checks = judging_fails f c n r s t e h.judging g; collected = tt }

-- ---- what was loaded

-- memory was not found before the first step
pub loads_nothing : (n : ℕ) (f : List Clause) (r : Stepping) → IsUnfailed r → LoadsProof n f r r (Err error.NoMemory)
loads_nothing n f r h = record { clauses = f; checks = nothing_judged f r h; keeps = tt }

pub loads_fault : (n : ℕ) (f : List Clause) (kept : List Coded) (r s : Stepping) (e : ProofError) → Collects f kept r s (Err e) → LoadsProof n f r s (Err e)
loads_fault n f kept r s e h = record { clauses = h.clauses; checks = h.checks; keeps = tt }

pub loads_refused : (n : ℕ) (f : List Clause) (kept : List Coded) (r s : Stepping) (k : ℕ) → Collects f kept r s (Ok (verdict.NotVerified k)) → LoadsProof n f r s (Ok (loaded.NotVerified k))
loads_refused n f kept r s k h = record { clauses = h.clauses; checks = h.checks; keeps = tt }

pub loads_verified : (n : ℕ) (f : List Clause) (kept : List Coded) (r s : Stepping) (l : Loaded) → Collects f kept r s (Ok verdict.Verified) → KeepsProof n f (map step_of kept) l → SaysVerified l → LoadsProof n f r s (Ok l)
loads_verified n f kept r s (loaded.Valid p) h k v = record { clauses = h.clauses; checks = h.checks; keeps = subst (λ t. KeepsProof n f t (loaded.Valid p)) (sym (h.collected refl)) k }
loads_verified n f kept r s (loaded.NotVerified m) h k v = absurd v
loads_verified n f kept r s (loaded.TooManyVariables m) h k v = record {
  clauses = h.clauses;
  checks = h.checks;
  keeps = subst (λ t. KeepsProof n f t (loaded.TooManyVariables m)) (sym (h.collected refl)) k;
}

-- the steps that were taken are a refutation
pub is_refutation : (f : List Clause) (kept : List Coded) (r s : Stepping) → Collects f kept r s (Ok verdict.Verified) → IsRefutation f (map step_of kept)
is_refutation f kept r s h =
    subst (IsRefutation f) (h.collected refl) (record { refuted = h.checks.bears; ends = elim h.checks.stops.read_out [ inl e ↦ inl e.0 | inr e ↦ inr e.0 ] })
