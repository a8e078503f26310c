use Rattle.std.proofs.Common.{◌≡◌, ◌∙◌, true, false, ◌++◌, codes, sym, ap}
use Rattle.std.proofs.lemmas.List.{get_or_default}
use Rattle.kit_rules.specs.declared.table.Federate.{Federate}
use Rattle.kit_rules.specs.Parts.{nobody}
use Rattle.kit_rules.specs.Delivery.{has_bit}
use Rattle.kit_regions.proofs.Names.{names_more}
use Rattle.kit_regions.proofs.text.push_members.Goals.{then-is_member+in_ok-push_name, else-is_member}
use Rattle.kit_regions.proofs.text.push_members.Goals as goal

pub loop-j-preserved : goal.loop-j-preserved
loop-j-preserved c =
    let fs = c.args.federates.now in
    let called = ap (λ (f : Federate). f.name) (c.index-federates-j.is ∙ get_or_default fs c.loop-j.j c.index-federates-j.result nobody c.loop-j-test.true) in
    elim c.if-is_member.branch [
      | then-is_member+in_ok-push_name w ↦ (let e : c.if-is_member.out.items ≡ w.push_name.new.out.items = cc in
          names_more (has_bit c.args.mask) fs c.loop-j.j c.index-federates-j.result.name c.args.out.now.items c.loop-j.out.items c.if-is_member.out.items true (sym c.is_member.ensures ∙ w.if-is_member.true) called c.loop-j.invariant
          (e ∙ w.in_ok-push_name.ensures ∙ ap (λ n. c.loop-j.out.items ++ codes " " ++ n) w.bytes.ensures))
      | else-is_member w ↦ (let e : c.if-is_member.out.items ≡ c.loop-j.out.items = cc in
          names_more (has_bit c.args.mask) fs c.loop-j.j c.index-federates-j.result.name c.args.out.now.items c.loop-j.out.items c.if-is_member.out.items false (sym c.is_member.ensures ∙ w.if-is_member.false) called c.loop-j.invariant e)
    ]
