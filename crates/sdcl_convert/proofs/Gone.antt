-- The first clause with the same literals.
use Rattle.std.proofs.Common.{◌≡◌, ◌<◌, ◌≤◌, ℕ, zero, suc, true, false, cond, List, [], ◌∷◌, ◌++◌, length, take, drop, get_or, refl, ap, ◌∙◌, arith}
use Rattle.std.specs.List.{list_any}
use Rattle.std.proofs.lemmas.Bool.{or_parts}
use Rattle.sdcl_base.specs.Literal.{Clause, same_set}
use Rattle.sdcl_io.specs.Step.{remove_clause}

removed_to : (f : List Clause) (at n : ℕ) (d : Clause) → n ≡ suc at → at < length f → list_any (λ c. same_set c d) (take at f) ≡ false → same_set (get_or f at []) d ≡ true
    → remove_clause f d ≡ take at f ++ drop n f
removed_to [] at n d q h k e = absurd (omega (arith, h))
removed_to (c ∷ f) at zero d q h k e = absurd (omega (arith, q))
removed_to (c ∷ f) zero (suc n) d q h k e = let z : 0 ≡ n = omega (arith, q) in ap (λ b. cond b f (c ∷ remove_clause f d)) e ∙ ap (λ m. drop m f) z
removed_to (c ∷ f) (suc at) (suc n) d q h k e =
    let p : (same_set c d ≡ false) × (list_any (λ c. same_set c d) (take at f) ≡ false) = or_parts (same_set c d) (list_any (λ c. same_set c d) (take at f)) k in
    ap (λ b. cond b f (c ∷ remove_clause f d)) p.0 ∙ ap (λ g. c ∷ g) (removed_to f at n d (omega (arith, q)) (omega (arith, h)) p.1 e)

pub removed : (f : List Clause) (at : ℕ) (d : Clause) → at < length f → list_any (λ c. same_set c d) (take at f) ≡ false → same_set (get_or f at []) d ≡ true
    → remove_clause f d ≡ take at f ++ drop (suc at) f
removed f at d h k e = removed_to f at (suc at) d refl h k e

pub kept : (f : List Clause) (at : ℕ) (d : Clause) → length f ≤ at → list_any (λ c. same_set c d) (take at f) ≡ false → remove_clause f d ≡ f
kept [] at d h k = refl
kept (c ∷ f) zero d h k = absurd (omega (arith, h))
kept (c ∷ f) (suc at) d h k =
    let p : (same_set c d ≡ false) × (list_any (λ c. same_set c d) (take at f) ≡ false) = or_parts (same_set c d) (list_any (λ c. same_set c d) (take at f)) k in
    ap (λ b. cond b f (c ∷ remove_clause f d)) p.0 ∙ ap (λ g. c ∷ g) (kept f at d (omega (arith, h)) p.1)
