use Rattle.std.proofs.Common.{◌≡◌, ℕ, ◌<◌, List, length, get_or, set, refl, sym, ap, ◌∙◌, subst}
use mathlib.Core.Option.{some}
use lib.ListN.{get_elem?}
use Rattle.kit_ground.proofs.Lists.{at_or}
use Rattle.kit_rules.specs.Parts.{Parts}
use Rattle.kit_replay.specs.Stages.{QueueNode}
use Rattle.kit_replay.proofs.Taking.{at_first, turns_to}
use Rattle.kit_replay.proofs.stage.Stage.give_turn.Goals as goal

-- the node that was found
found : (l : List QueueNode) (k i : ℕ) (n : QueueNode) → k ≡ i → k < length l → n ≡ get_or l k n → get_elem? l i ≡ some n
found l k i n same lt is = subst (λ (x : ℕ). get_elem? l x ≡ some n) same (at_or l k n lt ∙ ap some (sym is))

pub turn-requires : goal.turn-requires
turn-requires c =
    let p : Parts = c.args.federation.now in
    let s = c.args.self.now in
    let i : ℕ = c.args.federate in
    let n : QueueNode = c.in_ok-node.node.now in
    (at_first p c.requires.limit c.requires.taken s c.requires.stage i n
    (found s.nodes.items c.from.result i n c.from.ensures c.in_ok-node.ensures.item.3.0 c.in_ok-node.ensures.value)
    c.seat.new.self c.seat.ensures.seated).seat

pub returns : goal.returns
returns c limit taken stage =
    let p : Parts = c.args.federation.now in
    let s = c.args.self.now in
    let i : ℕ = c.args.federate in
    let n : QueueNode = c.in_ok-node.node.now in
    let n' : QueueNode = c.turn.new.self in
    turns_to p limit taken s stage i n
    (found s.nodes.items c.from.result i n c.from.ensures c.in_ok-node.ensures.item.3.0 c.in_ok-node.ensures.value)
    c.seat.new.self c.seat.ensures.seated n' c.turn.new.ground c.turn.ensures.came c.turn.result
    (record { seat = c.turn.ensures.seat; turn = c.turn.ensures.turn; listed = c.turn.ensures.listed })
    (record { floor = c.turn.new.ground; nodes = Rattle.std.specs.Vec.with_item s.nodes c.from.result n'; reports = s.reports })
    refl (ap (λ (k : ℕ). set s.nodes.items k n') c.from.ensures) refl c.bad_end.result c.bad_end.ensures
