-- Variables and their places, when two of them are exchanged.
use Rattle.std.proofs.Common.{ℕ, ◌≡◌, ◌≢◌, ◌<◌, ◌≤◌, List, sym, ap, ◌∙◌, ⊎_elim, arith, get_or, set, length, get_or-set_same, get_or-set_other, ltb}
use Rattle.std.proofs.lemmas.Bool.{cases_eq, le-ltb}
use Rattle.std.proofs.lemmas.List.{length-set}
use Rattle.std.specs.List.{SwappedAt}
use Rattle.sdcl_decide.specs.Heap.{AreLinked, SameBehind}

-- what an exchange of the variables at i and j leaves
pub record Exchanges (i j : ℕ) (vars places ws qs : List ℕ) : Type 0 where
  pub i_low : 1 ≤ i
  pub i_high : i < length vars
  pub j_low : 1 ≤ j
  pub j_high : j < length vars
  pub size : length ws ≡ length vars
  pub room : length qs ≡ length places
  pub at_i : get_or ws i 0 ≡ get_or vars j 0
  pub at_j : get_or ws j 0 ≡ get_or vars i 0
  pub else_at : (k : ℕ) → k ≢ i → k ≢ j → get_or ws k 0 ≡ get_or vars k 0
  pub of_i : get_or qs (get_or vars i 0) 0 ≡ j
  pub of_j : get_or qs (get_or vars j 0) 0 ≡ i
  pub else_of : (x : ℕ) → x ≢ get_or vars i 0 → x ≢ get_or vars j 0
      → get_or qs x 0 ≡ get_or places x 0

exchanged_below : (i j : ℕ) (vars places ws qs : List ℕ) → Exchanges i j vars places ws qs
    → AreLinked vars places
    → (k : ℕ) → k < length ws → get_or ws k 0 < length ws
exchanged_below i j vars places ws qs e h k low =
    ⊎_elim
    (λ is_i. omega (arith, ap (λ n. get_or ws n 0) is_i, e.at_i, e.size, h.below j e.j_high))
    (λ not_i. ⊎_elim
    (λ is_j. omega (arith, ap (λ n. get_or ws n 0) is_j, e.at_j, e.size, h.below i e.i_high))
    (λ not_j. omega (arith, e.else_at k not_i not_j, e.size, h.below k (omega (arith, e.size))))
    (cases_eq k j))
    (cases_eq k i)

exchanged_placed : (i j : ℕ) (vars places ws qs : List ℕ) → Exchanges i j vars places ws qs
    → AreLinked vars places
    → (k : ℕ) → k < length ws → get_or qs (get_or ws k 0) 0 ≡ k
exchanged_placed i j vars places ws qs e h k low =
    ⊎_elim
    (λ is_i. ap (λ n. get_or qs n 0) (ap (λ n. get_or ws n 0) is_i ∙ e.at_i) ∙ e.of_j ∙ sym is_i)
    (λ not_i. ⊎_elim
    (λ is_j. ap (λ n. get_or qs n 0) (ap (λ n. get_or ws n 0) is_j ∙ e.at_j) ∙ e.of_i ∙ sym is_j)
    (λ not_j. let high : k < length vars = omega (arith, e.size) in
    ap (λ n. get_or qs n 0) (e.else_at k not_i not_j)
    ∙ e.else_of (get_or vars k 0)
    (λ same. not_i (sym (h.placed k high) ∙ ap (λ n. get_or places n 0) same ∙ h.placed i e.i_high))
    (λ same. not_j (sym (h.placed k high) ∙ ap (λ n. get_or places n 0) same ∙ h.placed j e.j_high))
    ∙ h.placed k high)
    (cases_eq k j))
    (cases_eq k i)

exchanged_within : (i j : ℕ) (vars places ws qs : List ℕ) → Exchanges i j vars places ws qs
    → AreLinked vars places
    → (x : ℕ) → x < length ws → get_or qs x 0 < length ws
exchanged_within i j vars places ws qs e h x low =
    ⊎_elim
    (λ is_i. omega (arith, ap (λ n. get_or qs n 0) is_i, e.of_i, e.size, e.j_high))
    (λ not_i. ⊎_elim
    (λ is_j. omega (arith, ap (λ n. get_or qs n 0) is_j, e.of_j, e.size, e.i_high))
    (λ not_j. omega (arith, e.else_of x not_i not_j, e.size, h.within x (omega (arith, e.size))))
    (cases_eq x (get_or vars j 0)))
    (cases_eq x (get_or vars i 0))

exchanged_found : (i j : ℕ) (vars places ws qs : List ℕ) → Exchanges i j vars places ws qs
    → AreLinked vars places
    → (x : ℕ) → x < length ws → get_or ws (get_or qs x 0) 0 ≡ x
exchanged_found i j vars places ws qs e h x low =
    ⊎_elim
    (λ is_i. ap (λ n. get_or ws n 0) (ap (λ n. get_or qs n 0) is_i ∙ e.of_i) ∙ e.at_j ∙ sym is_i)
    (λ not_i. ⊎_elim
    (λ is_j. ap (λ n. get_or ws n 0) (ap (λ n. get_or qs n 0) is_j ∙ e.of_j) ∙ e.at_i ∙ sym is_j)
    (λ not_j. let high : x < length vars = omega (arith, e.size) in
    ap (λ n. get_or ws n 0) (e.else_of x not_i not_j)
    ∙ e.else_at (get_or places x 0)
    (λ same. not_i (sym (h.found x high) ∙ ap (λ n. get_or vars n 0) same))
    (λ same. not_j (sym (h.found x high) ∙ ap (λ n. get_or vars n 0) same))
    ∙ h.found x high)
    (cases_eq x (get_or vars j 0)))
    (cases_eq x (get_or vars i 0))

-- variable 0 stays where it is
exchanged_root : (i j : ℕ) (vars places ws qs : List ℕ) → Exchanges i j vars places ws qs
    → AreLinked vars places
    → get_or qs 0 0 ≡ 0
exchanged_root i j vars places ws qs e h =
    e.else_of 0
    (λ same. omega (arith, e.i_low, h.placed i e.i_high, ap (λ n. get_or places n 0) same, h.root))
    (λ same. omega (arith, e.j_low, h.placed j e.j_high, ap (λ n. get_or places n 0) same, h.root))
    ∙ h.root

pub linked-exchange : (i j : ℕ) (vars places ws qs : List ℕ) → Exchanges i j vars places ws qs
    → AreLinked vars places → AreLinked ws qs
linked-exchange i j vars places ws qs e h = record {
  sizes = omega (arith, e.size, e.room, h.sizes);
  below = exchanged_below i j vars places ws qs e h;
  placed = exchanged_placed i j vars places ws qs e h;
  within = exchanged_within i j vars places ws qs e h;
  found = exchanged_found i j vars places ws qs e h;
  root = exchanged_root i j vars places ws qs e h;
}

-- ---- the code's writes

pub writes_exchange : (i j : ℕ) (vars places ws : List ℕ) → 1 ≤ i → i < length vars → 1 ≤ j
    → j < length vars
    → AreLinked vars places → length ws ≡ length vars → SwappedAt vars ws i j
    → Exchanges i j vars places ws (set (set places (get_or ws i 0) i) (get_or ws j 0) j)
writes_exchange i j vars places ws i_low i_high j_low j_high h size swapped =
    let a = get_or vars i 0 in
    let b = get_or vars j 0 in
    let at_i : get_or ws i 0 ≡ b = swapped.0 0 in
    let at_j : get_or ws j 0 ≡ a = swapped.1 0 in
    let a_in : a < length (set places b i) =
    omega (arith, length-set places b i, h.sizes, h.below i i_high) in
    let b_in : b < length places = omega (arith, h.sizes, h.below j j_high) in
    rw (at_i, at_j) (record {
      i_low = i_low;
      i_high = i_high;
      j_low = j_low;
      j_high = j_high;
      size = size;
      room = length-set (set places b i) a j ∙ length-set places b i;
      at_i = at_i;
      at_j = at_j;
      else_at = λ k not_i not_j. swapped.2 k 0 not_i not_j;
      of_i = get_or-set_same (set places b i) a j 0 a_in;
      of_j = ⊎_elim
          (λ same. let is : j ≡ i = sym (h.placed j j_high) ∙ ap (λ n. get_or places n 0) same
          ∙ h.placed i i_high in
          ap (λ n. get_or (set (set places b i) a j) n 0) same
          ∙ get_or-set_same (set places b i) a j 0 a_in ∙ is)
          (λ differ. get_or-set_other (set places b i) a b j 0 differ
          ∙ get_or-set_same places b i 0 b_in)
          (cases_eq b a);
      else_of = λ x not_i not_j. get_or-set_other (set places b i) a x j 0 not_i
          ∙ get_or-set_other places b x i 0 not_j;
    })

-- an exchange within the places up to `size` leaves the same variables there
pub same-exchange : (size i j : ℕ) (vars places qs : List ℕ) → AreLinked vars places
    → i < length vars → j < length vars → i ≤ size → j ≤ size
    → get_or qs (get_or vars i 0) 0 ≡ j → get_or qs (get_or vars j 0) 0 ≡ i
    → ((x : ℕ) → x ≢ get_or vars i 0 → x ≢ get_or vars j 0 → get_or qs x 0 ≡ get_or places x 0)
    → SameBehind size places qs
same-exchange size i j vars places qs h i_in j_in i_up j_up of_i of_j else_of x =
    ⊎_elim
    (λ is_i. le-ltb size (get_or qs x 0) (omega (arith, ap (λ n. get_or qs n 0) is_i, of_i))
    ∙ sym (le-ltb size (get_or places x 0)
    (omega (arith, ap (λ n. get_or places n 0) is_i, h.placed i i_in))))
    (λ not_i. ⊎_elim
    (λ is_j. le-ltb size (get_or qs x 0) (omega (arith, ap (λ n. get_or qs n 0) is_j, of_j))
    ∙ sym (le-ltb size (get_or places x 0)
    (omega (arith, ap (λ n. get_or places n 0) is_j, h.placed j j_in))))
    (λ not_j. ap (λ n. ltb size n) (else_of x not_i not_j))
    (cases_eq x (get_or vars j 0)))
    (cases_eq x (get_or vars i 0))
