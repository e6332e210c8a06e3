use Rattle.std.proofs.Common.{rules, ◌≡◌, ◌++◌, ◌∷◌, [], true}
use Rattle.sdcl_store.specs.Slots.{is_alive}
use Rattle.sdcl_convert.proofs.Turning.{live_one}
use Rattle.sdcl_convert.proofs.converting.push_live.Goals as goal

pub returns-in_ok-map_err : goal.returns-in_ok-map_err
returns-in_ok-map_err c =
    let alive : is_alive c.args.formula.now.slots c.args.id.0 ≡ true = search rules in
    let pushed : c.push.new.self.items ≡ c.args.clauses.now.items ++ c.in_ok-clause.clause ∷ [] = search rules in
    live_one c.args.formula.now.slots c.args.id.0 c.literals.result.now c.in_ok-clause.clause c.args.clauses.now.items c.push.new.self.items alive c.literals.ensures.value c.literals.ensures.distinct c.in_ok-clause.ensures.ok pushed
