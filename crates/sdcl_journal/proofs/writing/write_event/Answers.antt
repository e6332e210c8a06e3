use Rattle.std.proofs.Common.{ap, sym}
use Rattle.sdcl_proof.proofs.Sequel.{writes_same}
use Rattle.sdcl_journal.specs.Events.{event_of}
use Rattle.sdcl_journal.specs.Lines.{event_line}
use Rattle.sdcl_journal.proofs.writing.write_event.Goals as goal

pub returns-in-Decide-clause-writes : goal.returns-in-Decide-clause-writes
unfolding event_line
returns-in-Decide-clause-writes g c = writes_same _ _ _ _ _ _ (ap (λ e. event_line (event_of e)) (sym c.in-Decide.is)) c.write_decision.ensures.writes

pub returns-in-NoWitness-clause-writes : goal.returns-in-NoWitness-clause-writes
unfolding event_line
returns-in-NoWitness-clause-writes g c = writes_same _ _ _ _ _ _ (ap (λ e. event_line (event_of e)) (sym c.in-NoWitness.is)) c.write_all.ensures.writes

pub returns-in-InnerSpent-clause-writes : goal.returns-in-InnerSpent-clause-writes
unfolding event_line
returns-in-InnerSpent-clause-writes g c = writes_same _ _ _ _ _ _ (ap (λ e. event_line (event_of e)) (sym c.in-InnerSpent.is)) c.write_numbered.ensures.writes

pub returns-in-Learn-clause-writes : goal.returns-in-Learn-clause-writes
unfolding event_line
returns-in-Learn-clause-writes g c = writes_same _ _ _ _ _ _ (ap (λ e. event_line (event_of e)) (sym c.in-Learn.is)) c.write_clause.ensures.writes

pub returns-in-LearnWitness-clause-writes : goal.returns-in-LearnWitness-clause-writes
unfolding event_line
returns-in-LearnWitness-clause-writes g c = writes_same _ _ _ _ _ _ (ap (λ e. event_line (event_of e)) (sym c.in-LearnWitness.is)) c.write_clause-in-LearnWitness.ensures.writes

pub returns-in-Back-clause-writes : goal.returns-in-Back-clause-writes
unfolding event_line
returns-in-Back-clause-writes g c = writes_same _ _ _ _ _ _ (ap (λ e. event_line (event_of e)) (sym c.in-Back.is)) c.write_numbered-in-Back.ensures.writes

pub returns-in-Forget-clause-writes : goal.returns-in-Forget-clause-writes
unfolding event_line
returns-in-Forget-clause-writes g c = writes_same _ _ _ _ _ _ (ap (λ e. event_line (event_of e)) (sym c.in-Forget.is)) c.write_clause-in-Forget.ensures.writes

pub returns-in-Empty-clause-writes : goal.returns-in-Empty-clause-writes
unfolding event_line
returns-in-Empty-clause-writes g c = writes_same _ _ _ _ _ _ (ap (λ e. event_line (event_of e)) (sym c.in-Empty.is)) c.write_all-in-Empty.ensures.writes

pub returns-in-Model-clause-writes : goal.returns-in-Model-clause-writes
unfolding event_line
returns-in-Model-clause-writes g c = writes_same _ _ _ _ _ _ (ap (λ e. event_line (event_of e)) (sym c.in-Model.is)) c.write_all-in-Model.ensures.writes

pub returns-in-Unknown-clause-writes : goal.returns-in-Unknown-clause-writes
unfolding event_line
returns-in-Unknown-clause-writes g c = writes_same _ _ _ _ _ _ (ap (λ e. event_line (event_of e)) (sym c.in-Unknown.is)) c.write_all-in-Unknown.ensures.writes
