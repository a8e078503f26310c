use Rattle.std.proofs.Common.{◌≡◌, ℕ, Some, None, sym, subst, ◌∙◌}
use Rattle.std.specs.List.{All}
use Rattle.kit_rules.specs.declared.table.Request.{Request}
use Rattle.kit_cut.specs.ValidCuts.{earliest, IsPendingMessage}
use Rattle.kit_cut.proofs.valid.are_timely.Goals as goal

pub returns-in-Some : goal.returns-in-Some
returns-in-Some c =
    let F : ℕ → Type 0 = λ n. All (IsPendingMessage c.args.federation.now c.args.i n c.args.nexts.now) c.args.pending.now in
    let e = c.are_pending_messages.ensures in
    let from = c.earliest_of-from.ensures in (
      λ t. record {
        asked = (λ r is. let G : Request → Type 0 = λ q. F (earliest c.args.at c.args.time q) in
            let same : c.in-Some.request ≡ r = (let x : Some c.in-Some.request ≡ Some r = sym c.in-Some.is ∙ is in cc) in
            subst G same (subst F from (e.0 t)));
        unasked = λ none. absurd (let x : Some c.in-Some.request ≡ None = sym c.in-Some.is ∙ none in cc);
      },
      λ h. e.1 (subst F (sym from) (h.asked c.in-Some.request c.in-Some.is)),
    )
