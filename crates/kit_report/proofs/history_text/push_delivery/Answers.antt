use Rattle.std.proofs.Common.{◌≡◌, ℕ, List, ◌++◌, codes, decimal, ap, ◌∙◌, subst}
use Rattle.std.specs.Prelude.{OnOk}
use Rattle.kit_rules.specs.Parts.{federate_at, group_at}
use Rattle.kit_rules.specs.Text.{value_text}
use Rattle.kit_report.proofs.Joined.{joined}
use Rattle.kit_report.proofs.history_text.push_delivery.Goals as goal

pub returns : goal.returns
returns c =
    let p = c.args.federation.now in
    let m = c.args.message.now in
    let written = ap (λ (out : List ℕ). out ++ codes "#" ++ decimal m.number ++ value_text m)
    (c.in_ok-push_origin.ensures ∙ ap (λ (out : List ℕ). out ++ (group_at p m.group).name ++ codes " " ++ (federate_at p m.sender).name) c.in_ok-push_front.ensures)
    ∙ joined c.args.out.now.items (decimal c.args.granted) (codes " ") (federate_at p c.args.federate).name (codes " got ") (group_at p m.group).name (federate_at p m.sender).name (codes "#") (decimal m.number) (value_text m) in
    subst (λ (xs : List ℕ). OnOk c.push_numbers.result (c.push_numbers.new.out.items ≡ xs)) written c.push_numbers.ensures
