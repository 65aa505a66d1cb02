-- The list passed its checks: it is answered.
use Rattle.pages.proofs.Listing.{list_accepted}
use Rattle.pages.proofs.answer_list.Goals as goal

pub answer_all-requires : goal.answer_all-requires
answer_all-requires c =
    let a = c.args in
    let h = list_accepted a.sizes.nodes a.sizes.edges a.list.count a.flows.now a.sets.now c.in_ok-check_list.ensures in
    (c.requires, record { few = h.0; flows_room = h.1; sets_room = h.2 })
