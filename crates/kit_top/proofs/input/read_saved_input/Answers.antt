use Rattle.std.proofs.Common.{List, ℕ, Option, Err, ap, sym, subst}
use Rattle.kit_top.specs.Causes.{InputCausesBy, IsBadSaved, IsTheFault, IsWhole, Told}
use Rattle.kit_restore.specs.Saved.{saved_walk}
use Rattle.kit_top.proofs.Telling.{bad_file_causes, told_weaker}
use Rattle.kit_top.proofs.input.read_saved_input.Goals as goal

pub returns-clause-told : goal.returns-clause-told
returns-clause-told g c =
    let old = c.args.source.now in
    let new = c.read_bytes.new.source in
    let fault = c.in-Err.fault in
    let W : List ℕ → Type 0 = IsWhole g.S.Source old new in
    let whole = subst W (sym c.deref.ensures.value) c.in_ok-bytes.ensures.whole in
    let P : Option (List ℕ) → Type 0 = λ held. Told (InputCausesBy g.S.Source IsBadSaved old new) held (g.K.Sink.holds c.tell_bad_file.new.sink) c.tell_bad_file.result in
    subst P (ap g.K.Sink.holds c.in_ok-bytes.ensures.untouched)
    (told_weaker (IsTheFault fault) (InputCausesBy g.S.Source IsBadSaved old new) _ _ c.tell_bad_file.result
    (bad_file_causes g.S.Source saved_walk old new c.deref.result.now fault whole c.in-Err.ensures.fault (λ x. c.in-Err.ensures.not_json (ap Err x))) c.tell_bad_file.ensures.told)
