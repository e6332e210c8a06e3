-- No word that is not complete where a reading stands ends before that place.
use Rattle.std.proofs.Common.{◌≡◌, ℕ, ◌+◌, ◌≤◌, ◌==◌, Bool, true, false, cond, List, [], ◌∷◌, ◌++◌, length, Option, Some, None, refl, arith, length-append}
use Rattle.std.specs.Prelude.{nat_lt}
use Rattle.std.proofs.lemmas.Bool.{le-ltb}
use Rattle.sdcl_io.specs.Words.{Word, until, is_blank, is_line_feed}
use Rattle.sdcl_io.specs.Ahead.{Ahead, Begin, Inside, Dropped, Spot, scan, counting, complete_before, NoneBefore}
use Rattle.sdcl_io.specs.Scan.{Scan}
use Rattle.sdcl_io.specs.declared.scanner.Place.{Place}
use Rattle.sdcl_io.specs.declared.scanner.Place.TheVariants.{LineStart, Between, InWord, Skipping}
use Rattle.sdcl_io.proofs.Following.{a_word, follow_at, OpenAt}
use Rattle.sdcl_io.proofs.Advancing.{StandsAt}

none_with : (n : ℕ) (w : Word) (ws : List Word) → n ≤ w.at + length w.bytes → complete_before n ws ≡ [] → complete_before n (w ∷ ws) ≡ []
none_with n w ws late none = rw (le-ltb (w.at + length w.bytes) n late) none

none_by : (t : Bool) (n : ℕ) (vs ws : List Word) → complete_before n vs ≡ [] → complete_before n ws ≡ [] → complete_before n (cond t vs ws) ≡ []
none_by true n vs ws h k = h
none_by false n vs ws h k = k

-- no word that begins behind a place ends before it
scan_late : (spot : Spot) (n at : ℕ) (bs : List ℕ) → n ≤ at → complete_before n (scan spot at bs) ≡ []
scan_late Begin n at [] late = refl
scan_late (Inside fresh) n at [] late = refl
scan_late Dropped n at [] late = refl
scan_late Begin n at (b ∷ bs) late =
    let on : n ≤ at + 1 = omega arith in
    none_by (is_line_feed b) n _ _ (scan_late Begin n (at + 1) bs on)
    (none_by (b == 99) n _ _ (scan_late Dropped n (at + 1) bs on)
    (none_by (is_blank b) n _ _ (scan_late (Inside true) n (at + 1) bs on)
    (none_with n (a_word at (b ∷ until is_blank bs)) _ (omega arith) (scan_late (Inside false) n (at + 1) bs on))))
scan_late (Inside fresh) n at (b ∷ bs) late =
    let on : n ≤ at + 1 = omega arith in
    none_by (is_line_feed b) n _ _ (scan_late Begin n (at + 1) bs on)
    (none_by (is_blank b) n _ _ (scan_late (Inside true) n (at + 1) bs on)
    (none_by fresh n _ _ (none_with n (a_word at (b ∷ until is_blank bs)) _ (omega arith) (scan_late (Inside false) n (at + 1) bs on))
    (scan_late (Inside false) n (at + 1) bs on)))
scan_late Dropped n at (b ∷ bs) late =
    let on : n ≤ at + 1 = omega arith in
    none_by (is_line_feed b) n _ _ (scan_late Begin n (at + 1) bs on) (scan_late Dropped n (at + 1) bs on)

follow_late : (place : Place) (n : ℕ) (s : Scan) (word bs : List ℕ) → OpenAt place s word → n ≤ s.at → complete_before n (follow_at place s word bs) ≡ []
follow_late LineStart n s word bs held late = scan_late Begin n s.at bs late
follow_late Between n s word bs held late = scan_late (Inside true) n s.at bs late
follow_late InWord n s word bs held late =
    none_with n (a_word s.start (word ++ until is_blank bs)) _ (omega (arith, held.ends, length-append word (until is_blank bs))) (scan_late (Inside false) n s.at bs late)
follow_late Skipping n s word bs held late = scan_late Dropped n s.at bs late

none_of : (t : Bool) (n : ℕ) (w : Word) (ws : List Word) → cond t (w ∷ complete_before n ws) (complete_before n ws) ≡ [] → (t ≡ false) × (complete_before n ws ≡ [])
none_of true n w ws h = cc
none_of false n w ws h = (refl, h)

none_counted : (limit n : ℕ) (ws : List Word) → complete_before n ws ≡ [] → complete_before n (complete_before limit ws) ≡ []
none_counted limit n [] h = refl
none_counted limit n (w ∷ ws) h =
    let k = none_of (nat_lt (w.at + length w.bytes) n) n w ws h in
    let rest = none_counted limit n ws k.1 in
    none_by (nat_lt (w.at + length w.bytes) limit) n (w ∷ complete_before limit ws) (complete_before limit ws) (rw k.0 rest) rest

none_counting : (over : Bool) (limit n : ℕ) (ws : List Word) → complete_before n ws ≡ [] → complete_before n (counting over limit ws) ≡ []
none_counting true limit n ws h = none_counted limit n ws h
none_counting false limit n ws h = h

-- where a reading stands, no word that is ahead is complete
pub none_whole : (a : Option Ahead) (limit n : ℕ) (s : Scan) (before : Option (List ℕ)) → StandsAt a limit s before → n ≡ s.at → NoneBefore n a
none_whole None limit n s before h e = tt
none_whole (Some a) limit n s None h e = absurd h
none_whole (Some a) limit n s (Some rest) h e =
    rw h.is (none_counting _ limit n _ (follow_late s.place n s h.word _ h.held (omega (arith, e))))
