-- The record of an edge is written field by field: at seven places a field stands behind the one before, and `edge_placed` joins them into one piece.
use Rattle.signed.proofs.Laws.{number_of_bits}
use Rattle.sheets.proofs.PlacedRecords.{edge_placed}
use Rattle.sheets.proofs.write_edge.Goals as goal

pub returns : goal.returns
returns c =
    let a = c.args in
    edge_placed a.out.now a.place a.tail a.head a.rotation a.back_rotation a.forward a.backward c.requires.1
    c.write_u8.ensures c.write_u16.ensures c.write_u16-2.ensures c.write_u16-3.ensures c.write_u16-4.ensures
    (rw (number_of_bits a.forward c.ranges.forward) at c.write_i32.ensures) (rw (number_of_bits a.backward c.ranges.backward) at c.write_i32-2.ensures)
