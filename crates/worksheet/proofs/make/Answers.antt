-- The sheet that was asked for, and how many bytes of the output it takes: by the contract of `practice_sheet`.
use Rattle.practice.proofs.Statements.{front_counted}
use Rattle.worksheet.proofs.make.Goals as goal

pub returns-in-Ok-clause-within : goal.returns-in-Ok-clause-within
returns-in-Ok-clause-within g c = (front_counted _ _ _ c.args.out.now c.practice_sheet.new.out c.in-Ok.n c.in-Ok.ensures).0

pub returns-in-Ok-clause-front : goal.returns-in-Ok-clause-front
returns-in-Ok-clause-front g c = (front_counted _ _ _ c.args.out.now c.practice_sheet.new.out c.in-Ok.n c.in-Ok.ensures).1
