use Rattle.std.proofs.Common.{◌≡◌, ◌∙◌, ◌+◌, ◌≤◌, ◌++◌, map, length, [], None, refl, sym, ap, arith, rules}
use Rattle.std.proofs.lemmas.List.{length-map}
use Rattle.sdcl_io.specs.Step.{All}
use Rattle.sdcl_proof.specs.Steps.{step_of}
use Rattle.sdcl_store.specs.Stores.{clauses_in}
use Rattle.sdcl_convert.specs.Conversion.{lines_of, converted_apart}
use Rattle.sdcl_convert.specs.Lines.{lines_in, line_step}
use Rattle.sdcl_convert.specs.Checked.{witnesses}
use Rattle.sdcl_convert.specs.Begun.{AreFirstOf}
use Rattle.sdcl_convert.proofs.Told.{on_err, apply_none, told_none, told_on, told_as, first_on, first_done}
use Rattle.sdcl_convert.proofs.Apart.{apart_none}
use Rattle.sdcl_convert.proofs.Turning.{Turn, before, done, behind, coded_all, last_small, turn_step, turn_room, turn_done, turn_all, turn_some, turn_clauses, turn_last, turn_below, turn_count}
use Rattle.sdcl_convert.proofs.converting.convert_steps.Goals as goal

pub loop-step-init : goal.loop-step-init
loop-step-init g c =
    let none : done (clauses_in c.args.formula.now) c.args.steps.now c.args.greatest 0 ≡ [] = sym (apart_none (clauses_in c.args.formula.now) (c.args.greatest + 1)) in
    record {
      ready = c.requires.ready;
      follows = search (rules, g.P.laws);
      later = omega arith;
      aside = refl;
      clauses = rw none (c.in_ok-clauses.ensures ∙ apply_none (clauses_in c.args.formula.now));
      told = told_as g.P.ProofOut.tells c.args.out.now c.args.out.now [] (done (clauses_in c.args.formula.now) c.args.steps.now c.args.greatest 0) (sym none) (told_none g.P.ProofOut.tells c.args.out.now);
      lines = sym (ap length none);
      last = omega arith;
      below = rw c.in_ok-clauses.ensures c.requires.steps.formula;
    }

pub overflow_add-last : goal.overflow_add-last
overflow_add-last g c =
    let small : c.loop-step.last ≤ 4194303 = last_small (clauses_in c.args.formula.now) c.args.steps.now c.args.greatest c.loop-step.step-index c.loop-step.last c.requires.steps (omega arith) c.loop-step.invariant.last in
    search rules

pub next_variable-last-requires : goal.next_variable-last-requires
next_variable-last-requires g c = last_small (clauses_in c.args.formula.now) c.args.steps.now c.args.greatest c.loop-step.step-index c.loop-step.last c.requires.steps (omega arith) c.loop-step.invariant.last

pub lines_of-requires-clause-room : goal.lines_of-requires-clause-room
lines_of-requires-clause-room g c =
    let turn : Turn (clauses_in c.args.formula.now) c.args.steps.now c.args.greatest c.loop-step.step-index c.step-item.result c.loop-step.clauses.items c.loop-step.last = record {
      at = c.loop-step-test.true;
      is = c.step-item.is;
      may = c.requires.steps;
      clauses_are = c.loop-step.invariant.clauses;
      last_is = c.loop-step.invariant.last;
      below = c.loop-step.invariant.below;
    } in
    turn_room (clauses_in c.args.formula.now) c.args.steps.now c.args.greatest c.loop-step.step-index c.step-item.result c.loop-step.clauses.items c.loop-step.last turn

pub lines_of-requires-clause-step : goal.lines_of-requires-clause-step
lines_of-requires-clause-step g c =
    let turn : Turn (clauses_in c.args.formula.now) c.args.steps.now c.args.greatest c.loop-step.step-index c.step-item.result c.loop-step.clauses.items c.loop-step.last = record {
      at = c.loop-step-test.true;
      is = c.step-item.is;
      may = c.requires.steps;
      clauses_are = c.loop-step.invariant.clauses;
      last_is = c.loop-step.invariant.last;
      below = c.loop-step.invariant.below;
    } in
    turn_step (clauses_in c.args.formula.now) c.args.steps.now c.args.greatest c.loop-step.step-index c.step-item.result c.loop-step.clauses.items c.loop-step.last turn

pub returns-in_err-more-clause-err : goal.returns-in_err-more-clause-err
returns-in_err-more-clause-err g c =
    let turn : Turn (clauses_in c.args.formula.now) c.args.steps.now c.args.greatest c.loop-step.step-index c.step-item.result c.loop-step.clauses.items c.loop-step.last = record {
      at = c.loop-step-test.true;
      is = c.step-item.is;
      may = c.requires.steps;
      clauses_are = c.loop-step.invariant.clauses;
      last_is = c.loop-step.invariant.last;
      below = c.loop-step.invariant.below;
    } in
    on_err c.from_residual-in_err-more.result (AreFirstOf g.P.ProofOut.tells c.args.out.now c.loop-step.out (converted_apart All (clauses_in c.args.formula.now) (map step_of c.args.steps.now) (c.args.greatest + 1)))
    (first_done g.P.ProofOut.tells c.args.out.now c.loop-step.out (converted_apart All (clauses_in c.args.formula.now) (map step_of c.args.steps.now) (c.args.greatest + 1)) (done (clauses_in c.args.formula.now) c.args.steps.now c.args.greatest c.loop-step.step-index)
    (lines_of All c.loop-step.clauses.items (c.loop-step.last + 1) (step_of c.step-item.result) ++ behind c.loop-step.clauses.items c.args.steps.now c.loop-step.step-index c.step-item.result c.loop-step.last)
    (turn_some (clauses_in c.args.formula.now) c.args.steps.now c.args.greatest c.loop-step.step-index c.step-item.result c.loop-step.clauses.items c.loop-step.last turn)
    c.loop-step.invariant.told)

pub returns-in_err-write_step-clause-err : goal.returns-in_err-write_step-clause-err
returns-in_err-write_step-clause-err g c =
    let turn : Turn (clauses_in c.args.formula.now) c.args.steps.now c.args.greatest c.loop-step.step-index c.step-item.result c.loop-step.clauses.items c.loop-step.last = record {
      at = c.loop-step-test.true;
      is = c.step-item.is;
      may = c.requires.steps;
      clauses_are = c.loop-step.invariant.clauses;
      last_is = c.loop-step.invariant.last;
      below = c.loop-step.invariant.below;
    } in
    let lines : lines_in c.as_slice-in-loop-step.result.now ≡ lines_of All c.loop-step.clauses.items (c.loop-step.last + 1) (step_of c.step-item.result) = ap lines_in c.as_slice-in-loop-step.ensures.value ∙ (rw c.as_slice.ensures.value at c.in_ok-more.ensures) in
    on_err c.from_residual-in_err-write_step.result (AreFirstOf g.P.ProofOut.tells c.args.out.now c.write_step.new.out (converted_apart All (clauses_in c.args.formula.now) (map step_of c.args.steps.now) (c.args.greatest + 1)))
    (first_on g.P.ProofOut.tells c.args.out.now c.loop-step.out c.write_step.new.out (converted_apart All (clauses_in c.args.formula.now) (map step_of c.args.steps.now) (c.args.greatest + 1)) (done (clauses_in c.args.formula.now) c.args.steps.now c.args.greatest c.loop-step.step-index)
    (lines_in c.as_slice-in-loop-step.result.now) (behind c.loop-step.clauses.items c.args.steps.now c.loop-step.step-index c.step-item.result c.loop-step.last)
    (turn_all (clauses_in c.args.formula.now) c.args.steps.now c.args.greatest c.loop-step.step-index c.step-item.result c.loop-step.clauses.items c.loop-step.last (lines_in c.as_slice-in-loop-step.result.now) turn lines)
    c.loop-step.invariant.told c.in_err-write_step.ensures.torn)

pub returns-in_err-lines-clause-err : goal.returns-in_err-lines-clause-err
returns-in_err-lines-clause-err g c =
    let turn : Turn (clauses_in c.args.formula.now) c.args.steps.now c.args.greatest c.loop-step.step-index c.step-item.result c.loop-step.clauses.items c.loop-step.last = record {
      at = c.loop-step-test.true;
      is = c.step-item.is;
      may = c.requires.steps;
      clauses_are = c.loop-step.invariant.clauses;
      last_is = c.loop-step.invariant.last;
      below = c.loop-step.invariant.below;
    } in
    let lines : lines_in c.as_slice-in-loop-step.result.now ≡ lines_of All c.loop-step.clauses.items (c.loop-step.last + 1) (step_of c.step-item.result) = ap lines_in c.as_slice-in-loop-step.ensures.value ∙ (rw c.as_slice.ensures.value at c.in_ok-more.ensures) in
    on_err c.from_residual-in_err-lines.result (AreFirstOf g.P.ProofOut.tells c.args.out.now c.write_step.new.out (converted_apart All (clauses_in c.args.formula.now) (map step_of c.args.steps.now) (c.args.greatest + 1)))
    (first_done g.P.ProofOut.tells c.args.out.now c.write_step.new.out (converted_apart All (clauses_in c.args.formula.now) (map step_of c.args.steps.now) (c.args.greatest + 1))
    (done (clauses_in c.args.formula.now) c.args.steps.now c.args.greatest c.loop-step.step-index ++ lines_in c.as_slice-in-loop-step.result.now) (behind c.loop-step.clauses.items c.args.steps.now c.loop-step.step-index c.step-item.result c.loop-step.last)
    (turn_all (clauses_in c.args.formula.now) c.args.steps.now c.args.greatest c.loop-step.step-index c.step-item.result c.loop-step.clauses.items c.loop-step.last (lines_in c.as_slice-in-loop-step.result.now) turn lines)
    (told_on g.P.ProofOut.tells c.args.out.now c.loop-step.out c.write_step.new.out (done (clauses_in c.args.formula.now) c.args.steps.now c.args.greatest c.loop-step.step-index) (lines_in c.as_slice-in-loop-step.result.now) None c.loop-step.invariant.told
    c.in_ok-write_step.ensures.told))

pub loop-step-preserved : goal.loop-step-preserved
loop-step-preserved g c =
    let turn : Turn (clauses_in c.args.formula.now) c.args.steps.now c.args.greatest c.loop-step.step-index c.step-item.result c.loop-step.clauses.items c.loop-step.last = record {
      at = c.loop-step-test.true;
      is = c.step-item.is;
      may = c.requires.steps;
      clauses_are = c.loop-step.invariant.clauses;
      last_is = c.loop-step.invariant.last;
      below = c.loop-step.invariant.below;
    } in
    let lines : lines_in c.as_slice-in-loop-step.result.now ≡ lines_of All c.loop-step.clauses.items (c.loop-step.last + 1) (step_of c.step-item.result) = ap lines_in c.as_slice-in-loop-step.ensures.value ∙ (rw c.as_slice.ensures.value at c.in_ok-more.ensures) in
    let added : c.in_ok-lines.lines ≡ c.loop-step.lines + c.len.result = search rules in
    let width : c.len.result ≡ length c.in_ok-more.more.items = search rules in
    let count : c.in_ok-lines.lines ≡ c.loop-step.lines + length (lines_in c.as_slice-in-loop-step.result.now) =
    added ∙ ap (λ n. c.loop-step.lines + n) (width ∙ sym (ap length c.as_slice-in-loop-step.ensures.value) ∙ sym (length-map c.as_slice-in-loop-step.result.now line_step)) in
    record {
      ready = search rules;
      follows = g.met.P.ProofOut.follows_on c.args.out.now c.loop-step.out c.write_step.new.out c.loop-step.invariant.follows c.write_step.ensures.follows;
      later = search rules;
      aside = search rules;
      clauses = turn_clauses (clauses_in c.args.formula.now) c.args.steps.now c.args.greatest c.loop-step.step-index c.step-item.result c.loop-step.clauses.items c.write_step.new.clauses.items c.loop-step.last (lines_in c.as_slice-in-loop-step.result.now) turn lines c.in_ok-write_step.ensures.applied;
      told =
          told_as g.P.ProofOut.tells c.args.out.now c.write_step.new.out _ _
          (sym (turn_done (clauses_in c.args.formula.now) c.args.steps.now c.args.greatest c.loop-step.step-index c.step-item.result c.loop-step.clauses.items c.loop-step.last (lines_in c.as_slice-in-loop-step.result.now) turn lines))
          (told_on g.P.ProofOut.tells c.args.out.now c.loop-step.out c.write_step.new.out (done (clauses_in c.args.formula.now) c.args.steps.now c.args.greatest c.loop-step.step-index) (lines_in c.as_slice-in-loop-step.result.now) None
          c.loop-step.invariant.told c.in_ok-write_step.ensures.told);
      lines = turn_count (clauses_in c.args.formula.now) c.args.steps.now c.args.greatest c.loop-step.step-index c.step-item.result c.loop-step.clauses.items c.loop-step.last c.loop-step.lines c.in_ok-lines.lines (lines_in c.as_slice-in-loop-step.result.now) turn lines c.loop-step.invariant.lines count;
      last = turn_last (clauses_in c.args.formula.now) c.args.steps.now c.args.greatest c.loop-step.step-index c.step-item.result c.loop-step.clauses.items c.loop-step.last c.next_variable-last.result turn c.next_variable-last.ensures;
      below =
          turn_below (clauses_in c.args.formula.now) c.args.steps.now c.args.greatest c.loop-step.step-index c.step-item.result c.loop-step.clauses.items c.write_step.new.clauses.items c.loop-step.last c.next_variable-last.result
          (lines_in c.as_slice-in-loop-step.result.now) turn lines c.in_ok-write_step.ensures.applied c.next_variable-last.ensures;
    }

pub returns-in_err-clauses-clause-err : goal.returns-in_err-clauses-clause-err
returns-in_err-clauses-clause-err g c =
    on_err c.from_residual.result (AreFirstOf g.P.ProofOut.tells c.args.out.now c.args.out.now (converted_apart All (clauses_in c.args.formula.now) (map step_of c.args.steps.now) (c.args.greatest + 1)))
    (first_done g.P.ProofOut.tells c.args.out.now c.args.out.now (converted_apart All (clauses_in c.args.formula.now) (map step_of c.args.steps.now) (c.args.greatest + 1)) [] (converted_apart All (clauses_in c.args.formula.now) (map step_of c.args.steps.now) (c.args.greatest + 1)) refl
    (told_none g.P.ProofOut.tells c.args.out.now))

pub returns-clause-ok : goal.returns-clause-ok
returns-clause-ok g c =
    let same : before c.args.steps.now c.loop-step.step-index ≡ map step_of c.args.steps.now = coded_all c.args.steps.now c.loop-step.step-index c.loop-step-test.false in
    let whole : done (clauses_in c.args.formula.now) c.args.steps.now c.args.greatest c.loop-step.step-index ≡ converted_apart All (clauses_in c.args.formula.now) (map step_of c.args.steps.now) (c.args.greatest + 1) =
    ap (λ ss. converted_apart All (clauses_in c.args.formula.now) ss (c.args.greatest + 1)) same in
    record {
      told = told_as g.P.ProofOut.tells c.args.out.now c.loop-step.out _ _ whole c.loop-step.invariant.told;
      steps = sym (length-map c.args.steps.now step_of);
      lines = c.loop-step.invariant.lines ∙ ap length whole;
      new_variables = omega (arith, c.loop-step.invariant.last, ap witnesses same);
    }

pub write_step-requires-clause-lines : goal.write_step-requires-clause-lines
write_step-requires-clause-lines g c = ap lines_in c.as_slice-in-loop-step.ensures.value ∙ (rw c.as_slice.ensures.value at c.in_ok-more.ensures)

pub overflow_add-last-in-loop-step : goal.overflow_add-last-in-loop-step
overflow_add-last-in-loop-step g c =
    let small : c.loop-step.last ≤ 4194303 = last_small (clauses_in c.args.formula.now) c.args.steps.now c.args.greatest c.loop-step.step-index c.loop-step.last c.requires.steps (omega arith) c.loop-step.invariant.last in
    search rules
