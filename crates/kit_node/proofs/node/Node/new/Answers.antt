use Rattle.std.proofs.Common.{ℕ, replicate, refl, ap, ◌∙◌}
use Rattle.kit_node.specs.declared.course.Course.{Course}
use Rattle.kit_node.specs.Mirrors.{shows}
use Rattle.kit_node.proofs.Beginnings.{begins}
use Rattle.kit_node.proofs.node.Node.new.Goals as goal

pub returns : goal.returns
returns g c = begins (shows g.Q.Order.entries g.R.Reduction.scheme g.R.Reduction.state) c.args.federation.now c.args.federate c.args.rounds _
    (record {
      me = refl;
      ended = refl;
      turns = c.no_turns.ensures;
      state = ap (λ (x : Course). x.state) c.new.ensures;
      now = ap (λ (x : Course). x.now) c.new.ensures;
      request = ap (λ (x : Course). x.request) c.new.ensures;
      journal = c.empty.ensures.entries;
      inbox = c.new-2.ensures;
      messages = c.in_ok-new.ensures.messages;
      done = c.in_ok-new.ensures.done;
      put = c.in_ok-new.ensures.put ∙ ap (λ (b : ℕ). replicate b 0) c.buffers.ensures.value;
      posts = c.in_ok-new.ensures.posts;
      none = c.new-4.ensures.none;
      of_federates = c.new-4.ensures.federates ∙ c.count.ensures.value;
      of_number = c.new-4.ensures.number;
      due = c.new-5.ensures.items;
    })
    c.count.ensures.sound.end.0 c.requires.limit
