-- A converted proof has no witness, and a block has its number of lines.
use Rattle.std.proofs.Common.{◌≡◌, Bool, true, false, not, ◌||◌, cond, List, [], ◌∷◌, ◌++◌, map, length, inl, inr, refl, sym, ap, subst, ◌∙◌, ℕ, ◌+◌, ◌*◌, arith, length-append}
use Rattle.std.proofs.lemmas.List.{length-map}
use Rattle.std.specs.List.{list_any, filter, flat_map}
use Rattle.std.proofs.lemmas.List.Folds.{list_any-append}
use Rattle.sdcl_base.specs.Literal.{Clause, pos_lit}
use Rattle.sdcl_base.proofs.In.{in_append_cases, in_filter_from}
use Rattle.sdcl_io.specs.Step.{Step, Add, AddWitness, Delete, Deletions, All, idle, apply_all, adds_empty, ValidSteps}
use Rattle.sdcl_convert.specs.Conversion.{reduced, shaken, unshaken, reduced_lines, weakened, implied, weakening, block, lines_of, converted, converted_apart, next_variable, has_witness}
use Rattle.sdcl_convert.specs.Laws.{IsAddition, Alike, AllBelow, Below, copies}
use Rattle.sdcl_convert.proofs.Good.{good_apply, good_valid}
use Rattle.sdcl_convert.proofs.Blocks.{block_good}
use Rattle.sdcl_convert.proofs.Whole.{block_alike}

-- a record, so that antt finds the list from a fact
record IsPlain (ss : List Step) : Type 0 where
  pub holds : list_any has_witness ss ≡ false

append_holds : (a b : List Step) → list_any has_witness a ≡ false → list_any has_witness b ≡ false → list_any has_witness (a ++ b) ≡ false
append_holds a b h k = list_any-append has_witness a b ∙ ap (λ z. z || list_any has_witness b) h ∙ k

plain_append : (a b : List Step) → IsPlain a → IsPlain b → IsPlain (a ++ b)
plain_append a b h k = record { holds = append_holds a b h.holds k.holds }

adds_hold : (cs : List Clause) → list_any has_witness (map Add cs) ≡ false
adds_hold [] = refl
adds_hold (c ∷ cs) = adds_hold cs

deletes_hold : (cs : List Clause) → list_any has_witness (map Delete cs) ≡ false
deletes_hold [] = refl
deletes_hold (c ∷ cs) = deletes_hold cs

pairs_hold : (x : ℕ) (es : List Clause) → list_any has_witness (flat_map (λ e. Add (e ++ pos_lit x ∷ []) ∷ Delete e ∷ []) es) ≡ false
pairs_hold x [] = refl
pairs_hold x (e ∷ es) = pairs_hold x es

plain_adds : (cs : List Clause) → IsPlain (map Add cs)
plain_adds cs = record { holds = adds_hold cs }

plain_deletes : (cs : List Clause) → IsPlain (map Delete cs)
plain_deletes cs = record { holds = deletes_hold cs }

plain_pairs : (f : List Clause) (w : Clause) (x : ℕ) → IsPlain (weakening f w x)
plain_pairs f w x = record { holds = pairs_hold x (filter (shaken w) f) }

plain_one : (c : Clause) → IsPlain (Add c ∷ [])
plain_one c = record { holds = refl }

plain_block : (f : List Clause) (c w : Clause) (x : ℕ) → IsPlain (block f c w x)
unfolding block
plain_block f c w x =
    plain_append _ _ (plain_append _ _ (plain_append _ _ (plain_append _ _ (plain_append _ _ (plain_append _ _
    (plain_adds (reduced_lines f w x)) (plain_one (pos_lit x ∷ c))) (plain_pairs f w x)) (plain_adds (implied w x))) (plain_adds (filter (shaken w) f))) (plain_one c))
    (plain_deletes (reduced_lines f w x ++ (pos_lit x ∷ c) ∷ [] ++ weakened f w x ++ implied w x))

plain_cond : (b : Bool) (ss ts : List Step) → IsPlain ss → IsPlain ts → IsPlain (cond b ss ts)
plain_cond true ss ts h k = h
plain_cond false ss ts h k = k

plain_lines : (mode : Deletions) (f : List Clause) (x : ℕ) (s : Step) → IsPlain (lines_of mode f x s)
unfolding lines_of
plain_lines mode f x (Add c) = record { holds = refl }
plain_lines mode f x (AddWitness c w) = plain_block f c w x
plain_lines mode f x (Delete d) = plain_cond (idle mode f d) [] (Delete d ∷ []) (record { holds = refl }) (record { holds = refl })

plain_all : (mode : Deletions) (f : List Clause) (steps : List Step) (x : ℕ) → IsPlain (converted mode f steps x)
unfolding converted
plain_all mode f [] x = record { holds = refl }
plain_all mode f (s ∷ ss) x =
    plain_append (lines_of mode f x s) _ (plain_lines mode f x s) (plain_cond (adds_empty s) [] _ (record { holds = refl }) (plain_all mode (apply_all All f (lines_of mode f x s)) ss x))

pub plain_law : (mode : Deletions) (f : List Clause) (steps : List Step) (x : ℕ) → list_any has_witness (converted mode f steps x) ≡ false
plain_law mode f steps x = (plain_all mode f steps x).holds

length_pairs : (x : ℕ) (es : List Clause) → length (flat_map (λ e. Add (e ++ pos_lit x ∷ []) ∷ Delete e ∷ []) es) ≡ 2 * length es
length_pairs x [] = refl
length_pairs x (e ∷ es) = omega (arith, length_pairs x es)

pub length_law : (f : List Clause) (c w : Clause) (x : ℕ) → length (block f c w x) ≡ 2 * length (filter (reduced w) f) + 4 * length (filter (shaken w) f) + 2 * length w + 3
unfolding block
length_law f c w x = simp (length-append, length-map) (omega (arith, length_pairs x (filter (shaken w) f)))

plain_apart : (mode : Deletions) (f : List Clause) (steps : List Step) (x : ℕ) → IsPlain (converted_apart mode f steps x)
unfolding converted_apart
plain_apart mode f [] x = record { holds = refl }
plain_apart mode f (s ∷ ss) x =
    plain_append (lines_of mode f x s) _ (plain_lines mode f x s)
    (plain_cond (adds_empty s) [] _ (record { holds = refl }) (plain_apart mode (apply_all All f (lines_of mode f x s)) ss (next_variable s x)))

pub apart_plain_law : (mode : Deletions) (f : List Clause) (steps : List Step) (x : ℕ) → list_any has_witness (converted_apart mode f steps x) ≡ false
apart_plain_law mode f steps x = (plain_apart mode f steps x).holds

pub valid_law : (f : List Clause) (c w : Clause) (x : ℕ) → IsAddition f c w x → ValidSteps f (block f c w x)
valid_law f c w x h = good_valid f (block f c w x) _ (block_good f c w x h.formula h.clause h.witness h.redundant)

pub adds_law : (f : List Clause) (c w : Clause) (x : ℕ) → IsAddition f c w x → Alike (f ++ c ∷ []) (apply_all All f (block f c w x))
adds_law f c w x h d = block_alike f f c w (λ e. refl) d ∙ sym (ap (λ g. copies g d) (good_apply f (block f c w x) _ (block_good f c w x h.formula h.clause h.witness h.redundant)))

pub leaves_law : (f : List Clause) (c w : Clause) (x : ℕ) → IsAddition f c w x → AllBelow x (apply_all All f (block f c w x))
leaves_law f c w x h =
    subst (AllBelow x) (sym (good_apply f (block f c w x) _ (block_good f c w x h.formula h.clause h.witness h.redundant))) (λ d i.
    elim (in_append_cases (unshaken f w) (filter (shaken w) f ++ c ∷ []) d i) [
      | inl j ↦ h.formula d (in_filter_from (λ c. not (shaken w c)) f d j).0
      | inr j ↦ elim (in_append_cases (filter (shaken w) f) (c ∷ []) d j) [
        | inl m ↦ h.formula d (in_filter_from (shaken w) f d m).0
        | inr (inl e) ↦ subst (Below x) (sym e) h.clause
        | inr (inr m) ↦ absurd m
      ]
    ])
