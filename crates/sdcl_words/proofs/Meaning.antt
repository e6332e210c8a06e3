-- The word that a text is, row by row.
use Rattle.std.proofs.Common.{◌≡◌, ℕ, ◌+◌, ◌<◌, true, false, List, map, length, drop, get_or, Some, None, arith, add-one, drop-cons}
use Rattle.std.specs.Borrow.{Bor}
use Rattle.std.specs.Str.{bytes_eq}
use Rattle.std.proofs.lemmas.List.{drop_all}
use Rattle.sdcl_words.specs.Values.{meant_by}

abbrev pub named : {T : Type 0} → Bor (List ℕ) × T → List ℕ × T
named row = (row.0.now, row.1)

pub this_row : {T : Type 0} (rows : List (Bor (List ℕ) × T)) (i : ℕ) (row : Bor (List ℕ) × T) (text : List ℕ) → i < length rows → row ≡ get_or rows i row → bytes_eq row.0.now text ≡ true
    → meant_by (map named (drop i rows)) text ≡ Some row.1
this_row rows i row text inside is same = rw (drop-cons rows i row, ← is, same)

pub later_row : {T : Type 0} (rows : List (Bor (List ℕ) × T)) (i : ℕ) (row : Bor (List ℕ) × T) (text : List ℕ) → i < length rows → row ≡ get_or rows i row → bytes_eq row.0.now text ≡ false
    → meant_by (map named (drop (i + 1) rows)) text ≡ meant_by (map named (drop i rows)) text
later_row rows i row text inside is other = rw (add-one, drop-cons rows i row, ← is, other)

pub no_row : {T : Type 0} (rows : List (Bor (List ℕ) × T)) (i : ℕ) (text : List ℕ) → length rows ≡ i → meant_by (map named (drop i rows)) text ≡ None
no_row rows i text end = rw (drop_all i rows (omega arith))
