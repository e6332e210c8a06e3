-- What the lines of a step leave.
use Rattle.std.proofs.Common.{◌≡◌, ◌<◌, ◌+◌, ℕ, Bool, true, false, not, cond, List, [], ◌∷◌, ◌++◌, map, length, take, get_or, append_assoc, append-nil, refl, sym, ap, subst, ◌∙◌}
use Rattle.std.specs.List.{filter}
use Rattle.std.proofs.lemmas.List.{take_more}
use Rattle.std.proofs.lemmas.List.Elements.{filter-append}
use Rattle.sdcl_base.specs.Literal.{Clause, pos_lit}
use Rattle.sdcl_io.specs.Step.{Step, Add, AddWitness, Delete, All, idle, remove_clause, apply, apply_all}
use Rattle.sdcl_convert.specs.Conversion.{shaken, unshaken, reduced_lines, weakened, implied, weakening, block, lines_of, left_by}
use Rattle.sdcl_convert.specs.Laws.{AllBelow}
use Rattle.sdcl_convert.proofs.Good.{good_apply}
use Rattle.sdcl_convert.proofs.Blocks.{behind, helpers, third_base, fourth_base, third_part, seventh_part}
use Rattle.sdcl_convert.proofs.Told.{apply_on}

runs : (f g h : List Clause) (a b : List Step) → apply_all All f a ≡ g → apply_all All g b ≡ h → apply_all All f (a ++ b) ≡ h
runs f g h a b p q = apply_on f a b ∙ ap (λ z. apply_all All z b) p ∙ q

adds_leave : (f cs : List Clause) → apply_all All f (map Add cs) ≡ f ++ cs
unfolding apply_all apply
adds_leave f [] = sym (append-nil f)
adds_leave f (c ∷ cs) = adds_leave (f ++ c ∷ []) cs ∙ append_assoc f (c ∷ []) cs

-- a block puts the shaken clauses behind the others, and adds its clause, whether its lines are valid or not
pub block_leaves : (f : List Clause) (c w : Clause) (x : ℕ) → AllBelow x f → apply_all All f (block f c w x) ≡ unshaken f w ++ (filter (shaken w) f ++ c ∷ [])
unfolding block
block_leaves f c w x b =
    runs f ((fourth_base f c w x ++ filter (shaken w) f) ++ c ∷ []) _ _ (map Delete (helpers f c w x))
    (runs f (fourth_base f c w x ++ filter (shaken w) f) _ _ (Add c ∷ [])
    (runs f (fourth_base f c w x) _ _ (map Add (filter (shaken w) f))
    (runs f (third_base f c w x) _ _ (map Add (implied w x))
    (runs f ((f ++ reduced_lines f w x) ++ (pos_lit x ∷ c) ∷ []) _ _ (weakening f w x)
    (runs f (f ++ reduced_lines f w x) _ (map Add (reduced_lines f w x)) (Add (pos_lit x ∷ c) ∷ []) (adds_leave f (reduced_lines f w x)) (adds_leave (f ++ reduced_lines f w x) ((pos_lit x ∷ c) ∷ [])))
    (subst (λ z. apply_all All z (weakening f w x) ≡ third_base f c w x) (sym (append_assoc f (reduced_lines f w x) ((pos_lit x ∷ c) ∷ []))) (good_apply _ _ _ (third_part f w x (behind f c w x)))))
    (adds_leave (third_base f c w x) (implied w x)))
    (adds_leave (fourth_base f c w x) (filter (shaken w) f)))
    (adds_leave (fourth_base f c w x ++ filter (shaken w) f) (c ∷ [])))
    (good_apply _ _ _ (seventh_part f c w x b))

pub step_leaves : (f : List Clause) (x : ℕ) (s : Step) → AllBelow x f → apply_all All f (lines_of All f x s) ≡ left_by f s
unfolding lines_of apply_all apply idle
step_leaves f x (Add c) b = refl
step_leaves f x (AddWitness c w) b = block_leaves f c w x b
step_leaves f x (Delete d) b = refl

-- one clause more that was looked at
pub looked_on : (p : Clause → Bool) (f : List Clause) (i : ℕ) (c : Clause) (old new : List Clause) → i < length f → c ≡ get_or f i c → old ≡ filter p (take i f) → new ≡ old ++ filter p (c ∷ []) → new ≡ filter p (take (i + 1) f)
looked_on p f i c old new b e h k =
    k ∙ ap (λ z. z ++ filter p (c ∷ [])) h ∙ sym (filter-append p (take i f) (c ∷ [])) ∙ ap (filter p) (sym (take_more f i c b ∙ ap (λ y. take i f ++ y ∷ []) (sym e)))
