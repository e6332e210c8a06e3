-- Which variables were passed, by their places.
use Rattle.std.proofs.Common.{ℕ, ◌≡◌, ◌≢◌, ◌+◌, ◌-◌, ◌<◌, ◌≤◌, Bool, false, true, List, ◌++◌, sym, ap, ◌∙◌, ⊎_elim, inl, inr, ◌⊎◌, arith, get_or, set, take, drop, replicate, length, ltb, get_or-set_same, get_or-set_other}
use Rattle.std.proofs.lemmas.Bool.{cases_eq, cases_lt, lt-ltb, le-ltb, ltb-true}
use Rattle.std.proofs.lemmas.List.{get_or-map, length-map, length-set, same_lists, take_at, set-get_or, get_or-replicate, get_or_past, length-replicate}
use Rattle.sdcl_decide.specs.Heap.{AreLinked, SameBehind, Admits}
use Rattle.sdcl_decide.specs.Queue.{passed_of, AreAtOwnPlaces}

-- what a slice writes back into its vector
pub written_back : (xs ws : List ℕ) (n : ℕ) → length ws ≡ n
    → take n (ws ++ drop (length ws) xs) ≡ ws
written_back xs ws n e = take_at ws (drop (length ws) xs) n e

pub passed_at : (size : ℕ) (ps : List ℕ) (x : ℕ) (d : Bool) → x < length ps
    → get_or (passed_of size ps) x d ≡ ltb size (get_or ps x 0)
passed_at size ps x d low = get_or-map (λ p. ltb size p) ps x 0 d low

pub length-passed : (size : ℕ) (ps : List ℕ) → length (passed_of size ps) ≡ length ps
length-passed size ps = length-map ps (λ p. ltb size p)

pub passed_same : (size : ℕ) (ps qs : List ℕ) → length qs ≡ length ps → SameBehind size ps qs
    → passed_of size qs ≡ passed_of size ps
passed_same size ps qs e h =
    same_lists (passed_of size qs) (passed_of size ps)
    (length-passed size qs ∙ e ∙ sym (length-passed size ps))
    (λ k d low. let in_q : k < length qs = omega (arith, low, length-passed size qs) in
    passed_at size qs k d in_q ∙ h k ∙ sym (passed_at size ps k d (omega (arith, in_q, e))))

pub passed_admitted : (last var : ℕ) (ps qs : List ℕ) → length qs ≡ length ps → var < length ps
    → Admits last var ps qs → passed_of (last + 1) qs ≡ set (passed_of last ps) var false
passed_admitted last var ps qs e within h =
    same_lists (passed_of (last + 1) qs) (set (passed_of last ps) var false)
    (length-passed (last + 1) qs ∙ e ∙ sym (length-passed last ps)
    ∙ sym (length-set (passed_of last ps) var false))
    (λ k d low. let in_q : k < length qs = omega (arith, low, length-passed (last + 1) qs) in
    let in_p : k < length (passed_of last ps) = omega (arith, in_q, e, length-passed last ps) in
    passed_at (last + 1) qs k d in_q ∙ ⊎_elim
    (λ is. ap (λ n. ltb (last + 1) (get_or qs n 0)) is ∙ h.here
    ∙ sym (get_or-set_same (passed_of last ps) var false d
    (omega (arith, within, length-passed last ps)))
    ∙ ap (λ n. get_or (set (passed_of last ps) var false) n d) (sym is))
    (λ differs. h.others k differs ∙ sym (passed_at last ps k d (omega (arith, in_q, e)))
    ∙ sym (get_or-set_other (passed_of last ps) var k false d differs))
    (cases_eq k var))

-- to put back what is at hand changes nothing
pub passed_at_hand : (last var : ℕ) (ps : List ℕ) → var < length ps → get_or ps var 0 ≤ last
    → set (passed_of last ps) var false ≡ passed_of last ps
passed_at_hand last var ps within at_hand =
    ap (λ b. set (passed_of last ps) var b)
    (sym (passed_at last ps var false within ∙ le-ltb last (get_or ps var 0) at_hand))
    ∙ set-get_or (passed_of last ps) var false

pub passed_none : (n last : ℕ) (ps : List ℕ) → n ≡ last + 1 → AreAtOwnPlaces n ps
    → passed_of last ps ≡ replicate n false
passed_none n last ps e h =
    same_lists (passed_of last ps) (replicate n false)
    (length-passed last ps ∙ h.width ∙ sym (length-replicate n false))
    (λ k d low. let in_p : k < length ps = omega (arith, low, length-passed last ps) in
    let in_n : k < n = omega (arith, in_p, h.width) in
    passed_at last ps k d in_p ∙ ap (λ p. ltb last p) (h.each k in_n)
    ∙ le-ltb last k (omega (arith, in_n, e))
    ∙ sym (get_or-replicate n k false d in_n))

-- ---- the place that was added

-- what stands behind place 0 is within the list
pub inside : (vars ps : List ℕ) (x : ℕ) → AreLinked vars ps → 1 ≤ get_or ps x 0 → x < length vars
inside vars ps x h some =
    ⊎_elim
    (λ low. low)
    (λ past. absurd (omega (arith, get_or_past ps x 0 (omega (arith, past, h.sizes)), some)))
    (cases_lt x (length vars))

-- p are the places, q those after the exchange, n those in the end
pub admitted_others : (last var : ℕ) (vars ps qs ns : List ℕ) → AreLinked vars ps
    → var < length vars → last + 1 < length vars → last < get_or ps var 0
    → get_or qs (get_or vars (get_or ps var 0) 0) 0 ≡ last + 1
    → get_or qs (get_or vars (last + 1) 0) 0 ≡ get_or ps var 0
    → ((x : ℕ) → x ≢ get_or vars (get_or ps var 0) 0 → x ≢ get_or vars (last + 1) 0
    → get_or qs x 0 ≡ get_or ps x 0)
    → SameBehind (last + 1) qs ns
    → (x : ℕ) → x ≢ var → ltb (last + 1) (get_or ns x 0) ≡ ltb last (get_or ps x 0)
admitted_others last var vars ps qs ns h within room behind of_var of_next others same x differs =
    same x ∙ ⊎_elim
    (λ is. ap (λ n. ltb (last + 1) (get_or qs n 0)) is ∙ ap (λ n. ltb (last + 1) n) of_next
    ∙ lt-ltb (last + 1) (get_or ps var 0)
    (⊎_elim
    (λ at. absurd (differs (is ∙ ap (λ n. get_or vars n 0) (sym at) ∙ h.found var within)))
    (λ not_at. omega (arith, not_at, behind))
    (cases_eq (get_or ps var 0) (last + 1)))
    ∙ sym (ap (λ n. ltb last (get_or ps n 0)) is ∙ ap (λ n. ltb last n) (h.placed (last + 1) room)
    ∙ lt-ltb last (last + 1) (omega arith)))
    (λ not_next. ap (λ n. ltb (last + 1) n)
    (others x (λ is. differs (is ∙ h.found var within)) not_next)
    ∙ ⊎_elim
    (λ low. le-ltb (last + 1) (get_or ps x 0) (omega (arith, low))
    ∙ sym (le-ltb last (get_or ps x 0) (omega (arith, low))))
    (λ high. ⊎_elim
    (λ at. absurd
    (not_next
    (sym (h.found x (inside vars ps x h (omega (arith, high))))
    ∙ ap (λ n. get_or vars n 0) at)))
    (λ not_at. lt-ltb (last + 1) (get_or ps x 0) (omega (arith, high, not_at))
    ∙ sym (lt-ltb last (get_or ps x 0) (omega (arith, high))))
    (cases_eq (get_or ps x 0) (last + 1)))
    (cases_lt (get_or ps x 0) (last + 1)))
    (cases_eq x (get_or vars (last + 1) 0))

-- ---- the top is taken off

-- p are the places, q those after the exchange, n those in the end
pub passed_stay : (last : ℕ) (vars ps qs ns : List ℕ) → AreLinked vars ps → 1 ≤ last
    → last < length vars
    → get_or qs (get_or vars 1 0) 0 ≡ last → get_or qs (get_or vars last 0) 0 ≡ 1
    → ((x : ℕ) → x ≢ get_or vars 1 0 → x ≢ get_or vars last 0 → get_or qs x 0 ≡ get_or ps x 0)
    → SameBehind (last - 1) qs ns
    → (x : ℕ) → ltb last (get_or ps x 0) ≡ true → ltb (last - 1) (get_or ns x 0) ≡ true
passed_stay last vars ps qs ns h some room of_top of_last others same x behind =
    let far : last < get_or ps x 0 = ltb-true last (get_or ps x 0) behind in
    same x ∙ ap (λ n. ltb (last - 1) n) (others x
    (λ is. omega (arith, far, ap (λ n. get_or ps n 0) is, h.placed 1 (omega arith)))
    (λ is. omega (arith, far, ap (λ n. get_or ps n 0) is, h.placed last room)))
    ∙ lt-ltb (last - 1) (get_or ps x 0) (omega (arith, far))

pub passed_only : (last : ℕ) (vars ps qs ns : List ℕ) → AreLinked vars ps → 1 ≤ last
    → last < length vars
    → get_or qs (get_or vars 1 0) 0 ≡ last → get_or qs (get_or vars last 0) 0 ≡ 1
    → ((x : ℕ) → x ≢ get_or vars 1 0 → x ≢ get_or vars last 0 → get_or qs x 0 ≡ get_or ps x 0)
    → SameBehind (last - 1) qs ns
    → (x : ℕ) → ltb (last - 1) (get_or ns x 0) ≡ true
    → (x ≡ get_or vars 1 0) ⊎ (ltb last (get_or ps x 0) ≡ true)
passed_only last vars ps qs ns h some room of_top of_last others same x behind =
    let far : last - 1 < get_or qs x 0 =
    ltb-true (last - 1) (get_or qs x 0) (sym (same x) ∙ behind) in
    ⊎_elim
    (λ is. inl is)
    (λ not_top. ⊎_elim
    (λ is. let at : get_or qs x 0 ≡ 1 = ap (λ n. get_or qs n 0) is ∙ of_last in
    let one : last ≡ 1 = omega (arith, far, at, some) in
    absurd (not_top (is ∙ ap (λ n. get_or vars n 0) one)))
    (λ not_last. let stays : get_or qs x 0 ≡ get_or ps x 0 = others x not_top not_last in
    ⊎_elim
    (λ at. absurd
    (not_last
    (sym (h.found x (inside vars ps x h (omega (arith, far, stays, some))))
    ∙ ap (λ n. get_or vars n 0) at)))
    (λ not_at. inr (lt-ltb last (get_or ps x 0) (omega (arith, far, stays, not_at))))
    (cases_eq (get_or ps x 0) last))
    (cases_eq x (get_or vars last 0)))
    (cases_eq x (get_or vars 1 0))
