use Rattle.std.proofs.Common.{ap, ◌∙◌}
use Rattle.serde_json.specs.Data.{put}
use Rattle.serde_json.specs.View.{view, members_view}
use Rattle.serde_json.proofs.Views.{members_view-insert_entry}
use Rattle.kit_save.specs.Making.{written}
use Rattle.kit_save.proofs.objects.ObjectWriter.put.Goals as goal

pub returns : goal.returns
returns c =
    ap members_view c.in_ok-insert.ensures.entries
    ∙ members_view-insert_entry c.args.self.now.members.entries c.in_ok-key.key c.args.value
    ∙ ap (λ s. put s (view c.args.value) (written c.args.self.now)) c.in_ok-key.ensures.ok
