use Rattle.std.proofs.Common.{◌≡◌, ◌∙◌, ◌++◌, [], ◌∷◌, List, map, ap, refl}
use Rattle.std.proofs.lemmas.List.{get_or_default}
use Rattle.kit_base.specs.declared.history.Line.{Line}
use Rattle.kit_base.specs.declared.history.Line.TheVariants as line
use Rattle.kit_oracle.specs.declared.desk.Desk.{Desk}
use Rattle.kit_oracle.specs.Desks.{desk_at, nobody_there}
use Rattle.kit_oracle.specs.Pending.{front_until}
use Rattle.kit_cut.proofs.resume.grant_since.Goals as goal

pub returns-clause-lines : goal.returns-clause-lines
returns-clause-lines c =
    let time = c.args.pair.0 in
    let i = c.args.pair.1 in
    let ds = c.args.desks.now.items in
    let old = c.args.lines.now.items in
    let is : c.index_mut-desk.result.now ≡ desk_at ds i = c.index_mut-desk.ensures.value ∙ get_or_default ds i _ nobody_there c.requires.desk in
    c.in_ok-push.ensures.items
    ∙ ap (λ (ls : List Line). ls ++ line.Grant time i ∷ []) (c.in-Ok.ensures.lines c.args.federation.now 0 old refl ∙ ap (λ (d : Desk). old ++ map (line.Deliver time i) (front_until time d.queue)) is)
