use Rattle.std.proofs.Common.{◌∙◌, ap}
use Rattle.kit_regions.specs.Overlap.{mask_of}
use Rattle.kit_regions.proofs.Names.{line_made}
use Rattle.kit_regions.proofs.text.push_region.Goals as goal

pub returns : goal.returns
returns c =
    line_made c.args.plan.now c.args.update.now c.args.out.now.items c.push_head.new.out.items c.push_members.new.out.items c.push.new.self.items c.match_one-mask.result c.federates.result.now
    c.subscriptions.ensures.few c.in_ok-push_head.ensures (c.match_one-mask.ensures ∙ ap (λ subs. mask_of subs c.args.update.now) c.subscriptions.ensures.items) c.federates.ensures.items c.in_ok-push_members.ensures c.in_ok-push.ensures.items
