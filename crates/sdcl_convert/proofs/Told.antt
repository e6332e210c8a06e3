-- What a sink was told, step by step.
use Rattle.std.proofs.Common.{◌≡◌, ◌<◌, ◌+◌, ℕ, zero, suc, List, [], ◌∷◌, ◌++◌, length, take, drop, get_or, append_assoc, append-nil, inl, inr, refl, sym, ap, subst, ◌∙◌, arith, Option, Some, None, Result, Ok, Err}
use Rattle.std.specs.Prelude.{OnErr}
use Rattle.std.proofs.lemmas.List.{map-append, take_more}
use Rattle.sdcl_base.specs.Literal.{Clause}
use Rattle.sdcl_io.specs.Step.{Step, Add, Delete, All, idle, apply, apply_all, remove_clause}
use Rattle.sdcl_convert.specs.Lines.{line_step, lines_in}
use Rattle.sdcl_io.specs.Telling.{IsTold, MayBeTold}
use Rattle.sdcl_convert.specs.Begun.{IsNextOf, AreFirstOf}
use Rattle.sdcl_convert.specs.declared.lines.Line.{Line}

pub on_err : {A E : Type 0} (r : Result A E) (P : Type 0) → P → OnErr r P
on_err (Ok a) P h = tt
on_err (Err e) P h = h

-- ---- the clauses

pub applied_add : (f : List Clause) (c : Clause) → f ++ c ∷ [] ≡ apply All f (Add c)
unfolding apply
applied_add f c = refl

pub applied_delete : (f : List Clause) (c : Clause) → remove_clause f c ≡ apply All f (Delete c)
unfolding apply idle
applied_delete f c = refl

pub apply_none : (f : List Clause) → f ≡ apply_all All f []
unfolding apply_all
apply_none f = refl

pub apply_on : (f : List Clause) (ss more : List Step) → apply_all All f (ss ++ more) ≡ apply_all All (apply_all All f ss) more
unfolding apply_all
apply_on f [] more = refl
apply_on f (s ∷ ss) more = apply_on (apply All f s) ss more

pub apply_one : (f : List Clause) (s : Step) → apply_all All f (s ∷ []) ≡ apply All f s
unfolding apply_all
apply_one f s = refl

-- ---- the lines

pub lines_more : (ls : List Line) (i : ℕ) (l : Line) → i < length ls → l ≡ get_or ls i l → lines_in (take (i + 1) ls) ≡ lines_in (take i ls) ++ line_step l ∷ []
lines_more ls i l b e = ap lines_in (take_more ls i l b ∙ ap (λ y. take i ls ++ y ∷ []) (sym e)) ∙ map-append line_step (take i ls) (l ∷ [])

pub around : {A : Type 0} (xs : List A) (i : ℕ) (x : A) → i < length xs → x ≡ get_or xs i x → xs ≡ take i xs ++ (x ∷ drop (suc i) xs)
around [] i x b e = absurd (omega (arith, b))
around (y ∷ xs) zero x b e = ap (λ z. z ∷ xs) (sym e)
around (y ∷ xs) (suc i) x b e = ap (λ z. y ∷ z) (around xs i x (omega (arith, b)) e)

pub lines_around : (ls : List Line) (i : ℕ) (l : Line) → i < length ls → l ≡ get_or ls i l → lines_in ls ≡ lines_in (take i ls) ++ (line_step l ∷ lines_in (drop (suc i) ls))
lines_around ls i l b e = ap lines_in (around ls i l b e) ∙ map-append line_step (take i ls) (l ∷ drop (suc i) ls)

pub lines_applied : (ls : List Line) (i : ℕ) (l : Line) (f g h : List Clause) → i < length ls → l ≡ get_or ls i l → g ≡ apply_all All f (lines_in (take i ls)) → h ≡ apply All g (line_step l)
    → h ≡ apply_all All f (lines_in (take (i + 1) ls))
lines_applied ls i l f g h b e p q =
    q ∙ ap (λ z. apply All z (line_step l)) p ∙ sym (apply_one (apply_all All f (lines_in (take i ls))) (line_step l))
    ∙ sym (apply_on f (lines_in (take i ls)) (line_step l ∷ [])) ∙ ap (apply_all All f) (sym (lines_more ls i l b e))

-- ---- the sink

module _ {S : Type 0} (tells : S → List Step → Option Step → Type 0) where
  pub told_none : (s : S) → IsTold tells s s [] None
  told_none s before h = subst (λ z. tells s z None) (sym (append-nil before)) h

  pub told_on : (s t u : S) (done more : List Step) (torn : Option Step) → IsTold tells s t done None → IsTold tells t u more torn → IsTold tells s u (done ++ more) torn
  told_on s t u done more torn h k before b = subst (λ z. tells u z torn) (append_assoc before done more) (k (before ++ done) (h before b))

  pub told_as : (s t : S) (done steps : List Step) → done ≡ steps → IsTold tells s t done None → IsTold tells s t steps None
  told_as s t done steps e h before b = subst (λ z. tells t (before ++ z) None) e (h before b)

  -- a step more was tried
  pub torn_at : (s t u : S) (steps done rest : List Step) (step : Step) → steps ≡ done ++ (step ∷ rest) → IsTold tells s t done None → MayBeTold tells t u step → AreFirstOf tells s u steps
  torn_at s t u steps done rest step e h (inl k) = record {
    done = done ++ [];
    more = step ∷ rest;
    torn = None;
    parts = e ∙ ap (λ z. z ++ (step ∷ rest)) (sym (append-nil done));
    next = tt;
    told = told_on s t u done [] None h k;
  }
  torn_at s t u steps done rest step e h (inr (inl k)) = record {
    done = done ++ [];
    more = step ∷ rest;
    torn = Some step;
    parts = e ∙ ap (λ z. z ++ (step ∷ rest)) (sym (append-nil done));
    next = refl;
    told = told_on s t u done [] (Some step) h k;
  }
  torn_at s t u steps done rest step e h (inr (inr k)) = record {
    done = done ++ step ∷ [];
    more = rest;
    torn = None;
    parts = e ∙ sym (append_assoc done (step ∷ []) rest);
    next = tt;
    told = told_on s t u done (step ∷ []) None h k;
  }

  pub next_longer : (torn : Option Step) (more rest : List Step) → IsNextOf torn more → IsNextOf torn (more ++ rest)
  next_longer None more rest h = tt
  next_longer (Some s) [] rest h = absurd h
  next_longer (Some s) (t ∷ more) rest h = h

  -- some of these steps were tried
  pub first_on : (s t u : S) (all done steps rest : List Step) → all ≡ done ++ steps ++ rest → IsTold tells s t done None → AreFirstOf tells t u steps → AreFirstOf tells s u all
  first_on s t u all done steps rest e h k = record {
    done = done ++ k.done;
    more = k.more ++ rest;
    torn = k.torn;
    parts =
        e ∙ ap (λ z. done ++ z ++ rest) k.parts ∙ append_assoc done (k.done ++ k.more) rest ∙ ap (λ z. done ++ z) (append_assoc k.done k.more rest)
        ∙ sym (append_assoc done k.done (k.more ++ rest));
    next = next_longer k.torn k.more rest k.next;
    told = told_on s t u done k.done k.torn h k.told;
  }

  -- nothing more was tried
  pub first_done : (s t : S) (all done rest : List Step) → all ≡ done ++ rest → IsTold tells s t done None → AreFirstOf tells s t all
  first_done s t all done rest e h = record { done = done; more = rest; torn = None; parts = e; next = tt; told = h }
