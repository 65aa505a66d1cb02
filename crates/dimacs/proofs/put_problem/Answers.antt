-- "p max ", and the two counts.
use native.Mathlib.Omega.{arith}
use Rattle.texts.proofs.Joined.{placed_as, three_placed}
use Rattle.dimacs.proofs.Length.{problem_length}
use Rattle.dimacs.proofs.Joined.{ended_length, problem_joined}
use Rattle.dimacs.proofs.put_problem.Goals as goal

pub put_bytes-first-requires : goal.put_bytes-first-requires
put_bytes-first-requires c = let line = problem_length c.args.nodes c.args.arcs in omega arith

pub put_field-second-requires : goal.put_field-second-requires
put_field-second-requires c = let line = problem_length c.args.nodes c.args.arcs in omega arith

pub put_field-requires : goal.put_field-requires
put_field-requires c = let line = problem_length c.args.nodes c.args.arcs in omega (arith, ended_length c.args.nodes 32)

pub returns : goal.returns
returns c =
    let line = problem_length c.args.nodes c.args.arcs in
    placed_as (λ r. r) _ _ _ _ (problem_joined c.args.nodes c.args.arcs)
    (three_placed _ _ _ _ _ _ _ _ _ _ _ c.put_bytes-first.ensures c.put_field-second.ensures c.put_field.ensures
    (omega (arith, ended_length c.args.nodes 32, ended_length c.args.arcs 10)))
