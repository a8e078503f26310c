use Rattle.std.proofs.Common.{◌∙◌, ◌∷◌, ap}
use Rattle.std.specs.BinaryHeap.{heap_items}
use Rattle.kit_oracle.specs.Times.{count_later}
use Rattle.kit_oracle.proofs.Later.{later_pushed}
use Rattle.kit_oracle.proofs.times.Times.push.Goals as goal

pub returns : goal.returns
returns c t = later_pushed (λ r. r.0) t (record { 0 = c.args.time }) (heap_items c.self.inside.heap) (heap_items c.push.new.self) c.in_ok-push.ensures.permutation ∙ ap (λ xs. count_later t (c.args.time ∷ xs)) c.self.view_is
