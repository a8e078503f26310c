use Rattle.std.proofs.Common.{arith, sym, subst, ◌∙◌}
use Rattle.kit_restore.specs.Saved.{IsSaved}
use Rattle.kit_save.proofs.SavedText.{file_of_text, file_is_longer, text_is_saved}
use Rattle.kit_save.proofs.text.save_text.Goals as goal

pub returns-then-len-ge-MOST_SAVED-clause-too_long :
    goal.returns-then-len-ge-MOST_SAVED-clause-too_long
returns-then-len-ge-MOST_SAVED-clause-too_long c is =
    file_is_longer c.args.federation.now c.args.cut.now c.in_ok-text.text.items c.in_ok-text.ensures.text (omega (arith, c.len.ensures, c.if-len-ge-MOST_SAVED.true))

pub returns-clause-text : goal.returns-clause-text
returns-clause-text c = c.in_ok-push.ensures.items ∙ file_of_text c.args.federation.now c.args.cut.now c.in_ok-text.text.items c.in_ok-text.ensures.text

pub returns-clause-read_again : goal.returns-clause-read_again
returns-clause-read_again c =
    let p = c.args.federation.now in
    let cut = c.args.cut.now in
    subst (λ text. IsSaved text (p, cut)) (sym c.in_ok-push.ensures.items)
    (text_is_saved p cut c.in_ok-text.text.items c.keeps_its_limits.ensures c.federation_has_words.ensures c.requires c.cut_has_words.ensures c.in_ok-text.ensures.says)
