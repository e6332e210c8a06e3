-- The conversion of a proof with witnesses into one without, by a new variable.
use Rattle.std.specs.Prelude.{ℕ, ◌+◌, Bool, true, false, not, ◌&&◌, List, [], ◌∷◌, ◌++◌, map, if◌then◌else◌}
use Rattle.std.specs.List.{filter, flat_map}
use Rattle.sdcl_base.specs.Literal.{Clause, pos_lit, neg_lit, shares, complements, without_complements}
use Rattle.sdcl_io.specs.Step.{Step, Add, AddWitness, Delete, Deletions, All, idle, remove_clause, apply_all, adds_empty}

-- whether w makes d shorter: it makes no literal of d true, and one false
abbrev pub reduced : Clause → Clause → Bool
reduced w d = not (shares d w) && shares d (complements w)

-- whether w makes a literal of e true, and another false
abbrev pub shaken : Clause → Clause → Bool
shaken w e = shares e w && shares e (complements w)

-- the clauses that are not shaken
abbrev pub unshaken : List Clause → Clause → List Clause
unshaken f w = filter (λ c. not (shaken w c)) f

-- the reduced clauses, with not x and without the literals that w makes false
abbrev pub reduced_lines : List Clause → Clause → ℕ → List Clause
reduced_lines f w x = map (λ d. neg_lit x ∷ without_complements d w) (filter (reduced w) f)

-- the shaken clauses, with x
abbrev pub weakened : List Clause → Clause → ℕ → List Clause
weakened f w x = map (λ e. e ++ pos_lit x ∷ []) (filter (shaken w) f)

-- the literals of w, where x is true
abbrev pub implied : Clause → ℕ → List Clause
implied w x = map (λ l. l ∷ neg_lit x ∷ []) w

-- each shaken clause is replaced by its weaker form
abbrev pub weakening : List Clause → Clause → ℕ → List Step
weakening f w x = flat_map (λ e. Add (e ++ pos_lit x ∷ []) ∷ Delete e ∷ []) (filter (shaken w) f)

-- the lines that stand for the addition of c with the witness w, in parts 1 to 7
unfoldable pub block : List Clause → Clause → Clause → ℕ → List Step
block f c w x =
    map Add (reduced_lines f w x)
    ++ Add (pos_lit x ∷ c) ∷ []
    ++ weakening f w x
    ++ map Add (implied w x)
    ++ map Add (filter (shaken w) f)
    ++ Add c ∷ []
    ++ map Delete (reduced_lines f w x ++ (pos_lit x ∷ c) ∷ [] ++ weakened f w x ++ implied w x)

-- the lines that stand for one step
unfoldable pub lines_of : Deletions → List Clause → ℕ → Step → List Step
lines_of mode f x (Add c) = Add c ∷ []
lines_of mode f x (AddWitness c w) = block f c w x
lines_of mode f x (Delete d) = if idle mode f d then [] else Delete d ∷ []

-- what the lines of a step leave: after a block the shaken clauses stand behind the others
abbrev pub left_by : List Clause → Step → List Clause
left_by f (Add c) = f ++ c ∷ []
left_by f (AddWitness c w) = unshaken f w ++ (filter (shaken w) f ++ c ∷ [])
left_by f (Delete d) = remove_clause f d

-- the converted proof, where every block uses x
unfoldable pub converted : Deletions → List Clause → List Step → ℕ → List Step
converted mode f [] x = []
converted mode f (s ∷ ss) x =
    lines_of mode f x s
    ++ (if adds_empty s then [] else converted mode (apply_all All f (lines_of mode f x s)) ss x)

-- the new variable after a step, where each block takes the next one
abbrev pub next_variable : Step → ℕ → ℕ
next_variable (Add c) x = x
next_variable (AddWitness c w) x = x + 1
next_variable (Delete d) x = x

-- the converted proof, where each block takes the next variable
unfoldable pub converted_apart : Deletions → List Clause → List Step → ℕ → List Step
converted_apart mode f [] x = []
converted_apart mode f (s ∷ ss) x =
    lines_of mode f x s
    ++ (if adds_empty s then [] else converted_apart mode (apply_all All f (lines_of mode f x s)) ss (next_variable s x))

-- whether the step is an addition with a witness
abbrev pub has_witness : Step → Bool
has_witness (Add c) = false
has_witness (AddWitness c w) = true
has_witness (Delete c) = false
