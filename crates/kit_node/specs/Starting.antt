-- What the start does to a node.
use Rattle.std.specs.Prelude.{◌≡◌, ◌<◌, drop, filter, length, Some}
use Rattle.kit_rules.specs.declared.table.Trigger.TheVariants as trigger
use Rattle.kit_rules.specs.Parts.{Parts}
use Rattle.kit_rules.specs.Delivery.{is_transported}
use Rattle.kit_rules.specs.Simulation.{request_at}
use Rattle.kit_rules.specs.Step.{state_after}
use Rattle.kit_node.specs.declared.node.Node.{Node}

-- the start's rules have run: the state, the first request, and the outbox are new
pub record IsBegun {Q R : Type 0} (p : Parts) (n n' : Node Q R) : Type 0 where
  pub state : n'.course.state ≡ state_after p n.me trigger.Start 0 0 n.course.state
  pub request : n'.course.request ≡ Some (request_at n'.course.state.wish 0 p.end)
  pub now : n'.course.now ≡ 0
  pub outbox : n'.outbox.messages.items ≡ filter (is_transported p) (drop (length n.course.state.sends) n'.course.state.sends)
  pub done : n'.outbox.done ≡ n.outbox.done
  pub put : n'.outbox.put ≡ n.outbox.put
  pub posts : n'.outbox.posts ≡ n.outbox.posts
  pub others : n' ≡ record n { course = n'.course; outbox = n'.outbox }

-- its rules would take number 16,385
abbrev pub IsSpentAtStart : {Q R : Type 0} → Parts → Node Q R → Type 0
IsSpentAtStart p n = 16385 < (state_after p n.me trigger.Start 0 0 n.course.state).next
