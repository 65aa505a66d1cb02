-- The head of a sheet is written field by field: at each place a field stands behind the one before, and `head_placed` joins them into one piece.
use Rattle.sheets.proofs.PlacedRecords.{head_placed}
use Rattle.sheets.proofs.write_head.Goals as goal

pub returns : goal.returns
returns c =
    let a = c.args in
    head_placed a.out.now a.nodes a.edges a.outer c.requires c.write_u8.ensures c.write_u16.ensures c.write_u16-2.ensures c.write_u16-3.ensures
