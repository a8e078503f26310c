use Rattle.std.proofs.Common.{◌≡◌, ◌≤◌, ◌<◌, ℕ, List, length, ap, refl, sym, subst, ◌∙◌, rules}
use Rattle.kit_cut.specs.declared.cut.Cut.{Cut}
use Rattle.kit_cut.specs.Cuts.{simulation_cut}
use Rattle.kit_save.specs.Text.{saved_text, most_saved}
use Rattle.kit_top.specs.declared.status.Status.TheVariants.{Done, CutTooLong}
use Rattle.kit_top.specs.Causes.{SavingCauses}
use Rattle.kit_top.proofs.Saved.{savable}
use Rattle.kit_top.proofs.Telling.{told_by}
use Rattle.kit_top.proofs.saving.tell_cut.Goals as goal

pub returns-in-Ok-clause-told : goal.returns-in-Ok-clause-told
returns-in-Ok-clause-told g c =
    let p = c.args.federation.now in
    let of_cut : saved_text p c.args.cut.now ≡ saved_text p (simulation_cut p c.args.time) = ap (saved_text p) c.requires.cut in
    let e = c.in-Ok.ensures in
    told_by (SavingCauses c.args.time p) Done c.deref.result.now _ _ c.tell.result
    (savable p c.args.time c.args.cut.now c.in-Ok.text.items c.requires.none c.requires.cut e.text e.fits e.read_again, c.deref.ensures.value ∙ e.text ∙ of_cut) c.tell.ensures.told

pub returns-in-Err-CutTooLong-clause-told : goal.returns-in-Err-CutTooLong-clause-told
returns-in-Err-CutTooLong-clause-told g c =
    let p = c.args.federation.now in
    let P : Cut → Type 0 = λ cut. most_saved < length (saved_text p cut) in
    told_by (SavingCauses c.args.time p) CutTooLong _ _ _ c.tell-in-Err-CutTooLong.result
    (c.requires.none, subst P c.requires.cut (c.in-Err-CutTooLong.ensures.too_long (search rules)), refl) c.tell-in-Err-CutTooLong.ensures.told
