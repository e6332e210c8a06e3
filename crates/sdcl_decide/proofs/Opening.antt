-- The foremost of the variables at hand.
use Rattle.std.proofs.Common.{ℕ, ◌≡◌, ◌<◌, ◌≤◌, false, true, List, sym, refl, ap, ◌∙◌, ⊎_elim, arith, get_or, length}
use Rattle.std.proofs.lemmas.Bool.{cases_eq, cases_lt, cases_Bool, le-ltb, ltb-false, false≢true}
use Rattle.std.proofs.lemmas.List.{get_or_past}
use Rattle.sdcl_base.specs.Literal.{Clause}
use Rattle.sdcl_decide.specs.Heap.{AreLinked, rank, rank_at}
use Rattle.sdcl_decide.specs.Queue.{Ranking, passed_of, IsQueue, IsFirstOpen, IsInStep, IsForemost, Settles, Passes, is_given}
use Rattle.sdcl_decide.proofs.Passing.{passed_at, length-passed}
use Rattle.sdcl_decide.proofs.Ranks.{top_greatest, not_before-rank, rank-not_before, same_rank}

-- what is seen of a queue
abbrev pub ranking_of : ℕ → List ℕ → List ℕ → ℕ → Ranking
ranking_of variables places scores last =
    record { variables = variables; scores = scores; passed = passed_of last places }

-- no variable from 1 on stands at place 0
pub place_low : (vars places : List ℕ) (x : ℕ) → AreLinked vars places → 1 ≤ x → x < length vars
    → 1 ≤ get_or places x 0
place_low vars places x h low high =
    ⊎_elim
    (λ none. let at_0 : x ≡ get_or vars 0 0 = sym (h.found x high)
    ∙ ap (λ n. get_or vars n 0) none in
    let is_0 : get_or vars 0 0 ≡ 0 =
    ap (λ n. get_or vars n 0) (sym h.root) ∙ h.found 0 (omega arith) in
    absurd (omega (arith, at_0, is_0)))
    (λ some. omega (arith, some))
    (cases_eq (get_or places x 0) 0)

pub top_low : (vars places : List ℕ) → AreLinked vars places → 1 < length vars → 1 ≤ get_or vars 1 0
top_low vars places h high =
    ⊎_elim
    (λ none. absurd (omega (arith, h.placed 1 high, ap (λ n. get_or places n 0) none, h.root)))
    (λ some. omega (arith, some))
    (cases_eq (get_or vars 1 0) 0)

-- a variable that was not passed stands in the heap
pub at_hand_place : (last x : ℕ) (places : List ℕ) → x < length places
    → get_or (passed_of last places) x false ≡ false → get_or places x 0 ≤ last
at_hand_place last x places high left = ltb-false last (get_or places x 0)
    (sym (passed_at last places x false high) ∙ left)

-- what stands in the heap has no greater rank than the top
pub below_top : (variables last : ℕ) (vars places scores : List ℕ)
    → IsQueue variables vars places scores last
    → (x : ℕ) → 1 ≤ x → x ≤ variables → get_or places x 0 ≤ last
    → rank scores x ≤ rank scores (get_or vars 1 0)
below_top variables last vars places scores q x low high here =
    let within : x < length vars = omega (arith, q.width, high) in
    let at : rank_at scores vars (get_or places x 0) ≡ rank scores x =
    ap (rank scores) (q.linked.found x within) in
    omega (
      arith,
      at,
      top_greatest last (rank_at scores vars) q.order (get_or places x 0)
          (place_low vars places x q.linked low within) here,
    )

pub top_is_first : (variables last : ℕ) (vars places scores : List ℕ) (lits : Clause)
    → IsQueue variables vars places scores last → 1 ≤ last
    → is_given lits (get_or vars 1 0) ≡ false
    → IsInStep (ranking_of variables places scores last) lits
    → IsFirstOpen (ranking_of variables places scores last) lits (get_or vars 1 0)
top_is_first variables last vars places scores lits q some free step =
    let second : 1 < length vars = omega (arith, q.width, q.within) in
    let top_high : get_or vars 1 0 ≤ variables = omega (arith, q.width, q.linked.below 1 second) in
    record {
      is = record { low = top_low vars places q.linked second; high = top_high; free = free };
      first = λ y o. ⊎_elim
          (λ passed. absurd (false≢true (sym o.free ∙ step y o.low o.high passed)))
          (λ left. not_before-rank scores (get_or vars 1 0) y (omega (arith, top_high, q.small))
          (omega (arith, o.high, q.small))
          (below_top variables last vars places scores q y o.low o.high
          (at_hand_place last y places (omega (arith, o.high, q.width, q.linked.sizes)) left)))
          (cases_Bool (get_or (passed_of last places) y false));
    }

-- ---- what was passed

-- a variable that was passed is in the list
passed_within : (last x : ℕ) (places : List ℕ) → get_or (passed_of last places) x false ≡ true
    → x < length places
passed_within last x places passed =
    ⊎_elim
    (λ low. low)
    (λ past. absurd
    (false≢true
    (sym (get_or_past (passed_of last places) x false
    (omega (arith, past, length-passed last places))) ∙ passed)))
    (cases_lt x (length places))

foremost_is_top : (variables last : ℕ) (vars places scores : List ℕ)
    → IsQueue variables vars places scores last
    → (x : ℕ) → IsForemost (ranking_of variables places scores last) x → (1 ≤ last)
    × (x ≡ get_or vars 1 0)
foremost_is_top variables last vars places scores q x f =
    let within : x < length places = omega (arith, f.is.high, q.width, q.linked.sizes) in
    let here : get_or places x 0 ≤ last = at_hand_place last x places within f.is.left in
    let some : 1 ≤ last =
    omega (
      arith,
      here,
      place_low vars places x q.linked f.is.low
          (omega (arith, within, q.linked.sizes)),
    ) in
    let second : 1 < length vars = omega (arith, q.width, q.within, some) in
    let top_low : 1 ≤ get_or vars 1 0 = top_low vars places q.linked second in
    let top_high : get_or vars 1 0 ≤ variables = omega (arith, q.width, q.linked.below 1 second) in
    let top_here : get_or (passed_of last places) (get_or vars 1 0) false ≡ false =
    passed_at last places (get_or vars 1 0) false (omega (arith, top_high, q.width, q.linked.sizes))
    ∙ le-ltb last (get_or places (get_or vars 1 0) 0)
    (omega (arith, q.linked.placed 1 second, some)) in
    let one : rank scores (get_or vars 1 0) ≤ rank scores x =
    rank-not_before scores (get_or vars 1 0) x
    (f.first (get_or vars 1 0) (record { low = top_low; high = top_high; left = top_here })) in (
      some,
      same_rank scores x (get_or vars 1 0) (omega (arith, f.is.high, q.small))
          (omega (arith, top_high, q.small))
          (omega (
            arith,
            one,
            below_top variables last vars places scores q x f.is.low f.is.high
                here,
          )),
    )

pub settles_by : (variables last after : ℕ) (vars places ns scores : List ℕ) (lits : Clause)
    → length ns ≡ length places
    → IsQueue variables vars ns scores after
    → Passes lits last after places ns
    → (1 ≤ after → is_given lits (get_or vars 1 0) ≡ false)
    → Settles lits (ranking_of variables places scores last) (ranking_of variables ns scores after)
settles_by variables last after vars places ns scores lits e q passes ready = record {
  same = refl;
  size = length-passed after ns ∙ e ∙ sym (length-passed last places);
  stay = λ x passed. let within : x < length places = passed_within last x places passed in
      passed_at after ns x false (omega (arith, within, e))
      ∙ passes.stay x (sym (passed_at last places x false within) ∙ passed);
  only = λ x left passed. let within : x < length ns = passed_within after x ns passed in
      passes.only x (sym (passed_at last places x false (omega (arith, within, e))) ∙ left)
      (sym (passed_at after ns x false within) ∙ passed);
  ready = λ x f. let top = foremost_is_top variables after vars ns scores q x f in
      ap (is_given lits) top.1 ∙ ready top.0;
}
