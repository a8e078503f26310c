use Rattle.std.proofs.Common.{sym, subst, IfOk, ◌≡◌}
use Rattle.serde_json.specs.Data.{string}
use Rattle.serde_json.specs.View.{view}
use Rattle.kit_file.specs.Names.{group_name}
use Rattle.kit_save.proofs.Names.{name_there}
use Rattle.kit_save.proofs.texts.group_name_value.Goals as goal

pub returns : goal.returns
returns c =
    let x = c.index-groups-place.result in
    subst (λ s. IfOk c.name_value.result (λ value. view value ≡ string s))
    (sym (name_there group_name c.args.groups.now c.args.place x c.requires.there)) c.name_value.ensures
