-- The clauses of a formula in a checker's database.
use Rattle.std.proofs.Common.{◌≡◌, ◌∙◌, ◌≤◌, ◌<◌, ℕ, zero, suc, ◌+◌, true, false, All, is_some, append-nil, List, [], ◌∷◌, ◌++◌, length, take, Option, Some, None, refl, sym, ap, subst, arith, inl, inr}
use Rattle.std.specs.Prelude.{Result, Ok, Err, OnOk}
use Rattle.sdcl_base.specs.declared.lit.NoMemory.{NoMemory}
use Rattle.std.proofs.lemmas.Bool.{true≢false}
use Rattle.std.proofs.Math.Seq.{take-suc}
use Rattle.sdcl_base.specs.Literal.{Literal, Clause}
use Rattle.sdcl_base.specs.Marks.{firsts, no_repeats}
use Rattle.sdcl_base.specs.Sets.{In, WithinVariables}
use Rattle.sdcl_base.proofs.In.{in_append_right}
use Rattle.sdcl_store.specs.Slots.{Slots, slot_at, is_alive, clause_of, live, live_before, live_behind}
use Rattle.sdcl_store.proofs.Slots.{live_append, live_split, alive_some}
use Rattle.sdcl_rup.specs.Base.{Base}
use Rattle.sdcl_rup.specs.Held.{Within}
use Rattle.sdcl_prcheck.proofs.Joining.{firsts_same}
use Rattle.sdcl_prcheck.specs.Copying.{Copies}

all_of : {A : Type 0} (P : A → Type 0) (xs : List A) → ((x : A) → In xs x → P x) → All P xs
all_of P [] h k d i = absurd (omega (arith, i))
all_of P (y ∷ xs) h zero d i = h y (inl refl)
all_of P (y ∷ xs) h (suc k) d i = all_of P xs (λ x j. h x (inr j)) k d (omega (arith, i))

-- a clause of a formula is within the variables that are covered
pub clause_covered : (m : ℕ) (slots : Slots) (i : ℕ) → WithinVariables m (live slots) → is_alive slots i ≡ true → Within m (clause_of slots i)
clause_covered m slots i w a =
    let there : In (live slots) (clause_of slots i) = subst (λ (f : List Clause). In f (clause_of slots i)) (sym (live_split slots i a))
    (in_append_right (live_before slots i) (clause_of slots i ∷ live_behind slots i) (clause_of slots i) (inl refl)) in
    all_of (λ (l : Literal). l.var ≤ m) (clause_of slots i) (λ l j. (w (clause_of slots i) l there j).1)

pub within_more : (n m : ℕ) (f : List Clause) → WithinVariables n f → n ≤ m → WithinVariables m f
within_more n m f w h d l i j = let r : (1 ≤ l.var) × (l.var ≤ n) = w d l i j in (r.0, omega (arith, r.1, h))

-- one clause more
pub copies_one : (slots : Slots) (b d : Base) (n : ℕ) (c : Clause) → is_alive slots n ≡ true → c ≡ clause_of slots n → no_repeats c ≡ true → d ≡ record { covered = b.covered; clauses = b.clauses ++ firsts c ∷ [] }
    → Copies slots b d n
copies_one slots b d n c a e h k = record {
  clauses =
      ap (λ (x : Base). x.clauses) k ∙ ap (λ (x : Clause). b.clauses ++ x ∷ []) (firsts_same c h ∙ e)
      ∙ ap (λ (o : Option Clause). b.clauses ++ live (o ∷ [])) (sym (alive_some slots n a));
  covered = ap (λ (x : Base). x.covered) k;
}

pub copies_added : (r : Result Unit NoMemory) (slots : Slots) (b d : Base) (n : ℕ) (c : Clause) → is_alive slots n ≡ true → c ≡ clause_of slots n → no_repeats c ≡ true
    → OnOk r (d ≡ record { covered = b.covered; clauses = b.clauses ++ firsts c ∷ [] }) → OnOk r (Copies slots b d n)
copies_added (Ok u) slots b d n c a e h k = copies_one slots b d n c a e h k
copies_added (Err x) slots b d n c a e h k = tt

none_there : (o : Option Clause) → is_some o ≡ false → live (o ∷ []) ≡ []
none_there None h = refl
none_there (Some c) h = absurd (true≢false h)

pub copies_none : (slots : Slots) (b : Base) (n : ℕ) → is_alive slots n ≡ false → Copies slots b b n
copies_none slots b n a = record {
  clauses = sym (append-nil b.clauses) ∙ ap (λ (f : List Clause). b.clauses ++ f) (sym (none_there (slot_at slots n) a));
  covered = refl;
}

-- those below the next id
pub copied_more : (slots : Slots) (i : ℕ) → i < length slots → live (take (i + 1) slots) ≡ live (take i slots) ++ live (slot_at slots i ∷ [])
copied_more slots i h =
    let step : i + 1 ≡ suc i = omega arith in
    ap (λ n. live (take n slots)) step ∙ ap live (take-suc slots i None h) ∙ live_append (take i slots) (slot_at slots i ∷ [])
