use Rattle.serde_json.specs.View.{view}
use Rattle.kit_save.proofs.SavedText.{text_written, text_said}
use Rattle.kit_save.proofs.text.json_text.Goals as goal

pub returns-clause-text : goal.returns-clause-text
returns-clause-text c =
    text_written (λ b. b.items) c.args.federation.now c.args.cut.now (view c.in_ok-value.value) c.to_vec.result c.in_ok-value.ensures c.to_vec.ensures.text

pub returns-clause-says : goal.returns-clause-says
returns-clause-says c =
    text_said (λ b. b.items) c.args.federation.now c.args.cut.now (view c.in_ok-value.value) c.to_vec.result c.in_ok-value.ensures c.to_vec.ensures.utf8 c.to_vec.ensures.reads_back
