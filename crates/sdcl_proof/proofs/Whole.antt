-- The whole steps of the words that are complete, word by word.
use Rattle.std.proofs.Common.{◌≡◌, ◌∙◌, ℕ, ◌+◌, ◌<◌, ◌≤◌, Bool, true, false, cond, List, [], ◌∷◌, length, Option, Some, None, refl, sym, ap, inl, inr, arith}
use Rattle.std.specs.Prelude.{⊤, nat_lt}
use Rattle.std.proofs.lemmas.Bool.{lt-ltb}
use Rattle.sdcl_io.specs.Words.{Word}
use Rattle.sdcl_io.specs.Step.{Step}
use Rattle.sdcl_io.specs.Scans.{kept_of}
use Rattle.sdcl_io.specs.Ahead.{Ahead, complete_before, NoneBefore, IsCut}
use Rattle.sdcl_io.specs.WordReading.{IsNextWord}
use Rattle.sdcl_io.specs.declared.scanner.Word.{Word as Kept}
use Rattle.sdcl_proof.specs.declared.step.Dialect.{Dialect}
use Rattle.sdcl_proof.specs.ProofText.{ProofText, Open, Nothing, Closes, Goes, Move, move, steps_from}
use Rattle.sdcl_proof.specs.Stepping.{whole_steps, NoneWhole, CutsOff, IsEnd}
use Rattle.sdcl_proof.proofs.Leading.{no_word, word_moves}
use Rattle.sdcl_proof.proofs.Parting.{move_kept}

-- At each place from this one on the words ahead give the whole steps that there were first, behind a step that is open.
abbrev pub WholeTo : Dialect → ℕ → Option Ahead → Option Ahead → Open → Type 0
WholeTo dialect at None now part = ⊤
WholeTo dialect at (Some a) None part = ⊥
WholeTo dialect at (Some a) (Some b) part = (n : ℕ) → at ≤ n → whole_steps dialect Nothing n a ≡ whole_steps dialect part n b

pub whole_first : (dialect : Dialect) (at : ℕ) (a : Option Ahead) (part : Open) → part ≡ Nothing → WholeTo dialect at a a part
whole_first dialect at None part e = tt
whole_first dialect at (Some a) part e = λ n late. ap (λ p. whole_steps dialect p n a) (sym e)

no_steps : (dialect : Dialect) (part : Open) → (steps_from dialect true 0 part []).steps ≡ []
no_steps dialect part = ap (λ (t : ProofText). t.steps) (no_word dialect true 0 part)

at_end : (dialect : Dialect) (part : Open) (n at : ℕ) (b : Ahead) → IsEnd at b → whole_steps dialect part n b ≡ []
at_end dialect part n at b e = ap (λ (x : Ahead). whole_steps dialect part n x) e ∙ no_steps dialect part

-- the whole steps at a word that is complete
whole_word : (dialect : Dialect) (part : Open) (n : ℕ) (w : Word) (ws : List Word) → w.at + length w.bytes < n → complete_before n (w ∷ ws) ≡ w ∷ complete_before n ws
whole_word dialect part n w ws less = rw (lt-ltb (w.at + length w.bytes) n less) refl

last_goes : (t : Bool) (dialect : Dialect) (part next : Open) (w : Word) → move dialect part w.bytes ≡ Goes next → (steps_from dialect true 0 part (cond t (w ∷ []) [])).steps ≡ []
last_goes true dialect part next w m = ap (λ (x : ProofText). x.steps) (word_moves dialect true 0 part w [] (Goes next) m) ∙ no_steps dialect next
last_goes false dialect part next w m = no_steps dialect part

goes_by : (dialect : Dialect) (part next : Open) (n end : ℕ) (a b : Ahead) (w : Word) → a.words ≡ w ∷ b.words → end ≤ n → move dialect part w.bytes ≡ Goes next → IsCut (w.at + length w.bytes) end b
    → whole_steps dialect part n a ≡ whole_steps dialect next n b
goes_by dialect part next n end a b w is late m (inl cut) =
    ap (λ ws. (steps_from dialect true 0 part (complete_before n ws)).steps) is
    ∙ ap (λ ws. (steps_from dialect true 0 part ws).steps) (whole_word dialect part n w b.words (omega (arith, cut, late)))
    ∙ ap (λ (x : ProofText). x.steps) (word_moves dialect true 0 part w (complete_before n b.words) (Goes next) m)
goes_by dialect part next n end a b w is late m (inr ends) =
    let none : b.words ≡ [] = ap (λ (x : Ahead). x.words) ends.1 in
    ap (λ ws. (steps_from dialect true 0 part (complete_before n ws)).steps) (is ∙ ap (λ ws. w ∷ ws) none)
    ∙ last_goes (nat_lt (w.at + length w.bytes) n) dialect part next w m
    ∙ sym (at_end dialect next n end b ends.1)

closes_by : (dialect : Dialect) (part : Open) (s : Step) (n end : ℕ) (a b : Ahead) (w : Word) → a.words ≡ w ∷ b.words → end ≤ n → move dialect part w.bytes ≡ Closes s → (w.at + length w.bytes) + 1 ≡ end
    → whole_steps dialect part n a ≡ s ∷ whole_steps dialect Nothing n b
closes_by dialect part s n end a b w is late m cut =
    ap (λ ws. (steps_from dialect true 0 part (complete_before n ws)).steps) is
    ∙ ap (λ ws. (steps_from dialect true 0 part ws).steps) (whole_word dialect part n w b.words (omega (arith, cut, late)))
    ∙ ap (λ (x : ProofText). x.steps) (word_moves dialect true 0 part w (complete_before n b.words) (Closes s) m)

word_of : (dialect : Dialect) (part : Open) (k : Kept) (m : Move) (a b : Ahead) (end : ℕ) (next : IsNextWord (Some a) (Some b) end (Some k)) → move dialect part (kept_of k).bytes ≡ m → move dialect part next.0 ≡ m
word_of dialect part k m a b end next moved = sym (move_kept dialect part next.0) ∙ ap (move dialect part) (sym next.1) ∙ moved

-- one word more, which closes no step
pub whole_goes : (dialect : Dialect) (at : ℕ) (first a b : Option Ahead) (part next : Open) (k : Kept) (end : ℕ) → WholeTo dialect at first a part → at ≤ end → IsNextWord a b end (Some k)
    → move dialect part (kept_of k).bytes ≡ Goes next → WholeTo dialect end first b next
whole_goes dialect at None a b part next k end h later w m = tt
whole_goes dialect at (Some f) None b part next k end h later w m = absurd h
whole_goes dialect at (Some f) (Some a) None part next k end h later w m = absurd w
whole_goes dialect at (Some f) (Some a) (Some b) part next k end h later w m = λ n late.
    h n (omega (arith, later, late))
    ∙ goes_by dialect part next n end a b (record { at = (kept_of k).at; bytes = w.0 }) (ap (λ (x : Ahead). x.words) w.2) late (word_of dialect part k (Goes next) a b end w m) w.3

cuts_by : (dialect : Dialect) (at end : ℕ) (f a b : Ahead) (part : Open) (s : Step) (w : Word) → ((n : ℕ) → at ≤ n → whole_steps dialect Nothing n f ≡ whole_steps dialect part n a) → at ≤ end
    → a.words ≡ w ∷ b.words → move dialect part w.bytes ≡ Closes s → IsCut (w.at + length w.bytes) end b → CutsOff dialect end (Some f) (Some b) s
cuts_by dialect at end f a b part s w h later is m (inl cut) = inl (λ n late. h n (omega (arith, later, late)) ∙ closes_by dialect part s n end a b w is late m cut)
cuts_by dialect at end f a b part s w h later is m (inr ends) = inr ends.1

-- a word that closes a step
pub whole_closes : (dialect : Dialect) (at : ℕ) (first a b : Option Ahead) (part : Open) (s : Step) (k : Kept) (end : ℕ) → WholeTo dialect at first a part → at ≤ end → IsNextWord a b end (Some k)
    → move dialect part (kept_of k).bytes ≡ Closes s → CutsOff dialect end first b s
whole_closes dialect at None a b part s k end h later w m = tt
whole_closes dialect at (Some f) None b part s k end h later w m = absurd h
whole_closes dialect at (Some f) (Some a) None part s k end h later w m = absurd w
whole_closes dialect at (Some f) (Some a) (Some b) part s k end h later w m =
    cuts_by dialect at end f a b part s (record { at = (kept_of k).at; bytes = w.0 }) h later (ap (λ (x : Ahead). x.words) w.2) (word_of dialect part k (Closes s) a b end w m) w.3

-- no word is complete
pub whole_none : (dialect : Dialect) (at n : ℕ) (first a : Option Ahead) (part : Open) → WholeTo dialect at first a part → at ≤ n → NoneBefore n a → NoneWhole dialect n first
whole_none dialect at n None a part h later none = tt
whole_none dialect at n (Some f) None part h later none = absurd h
whole_none dialect at n (Some f) (Some a) part h later none = h n later ∙ ap (λ ws. (steps_from dialect true 0 part ws).steps) none ∙ no_steps dialect part
