use Rattle.std.proofs.Common.{◌≡◌, ℕ, length, sym, ap, ◌∙◌, subst}
use Rattle.std.proofs.lemmas.Result.{IfOk-weaker}
use Rattle.kit_ground.specs.Floors.{new_floor}
use Rattle.kit_ground.specs.Rules.{places_at_first, zero_memory}
use Rattle.kit_rules.specs.Federation.{IsFederation}
use Rattle.kit_rules.specs.Parts.{Parts}
use Rattle.kit_lbts.specs.declared.lbts.Opening.{Opening}
use Rattle.kit_lbts.specs.declared.view.Scheme.TheVariants as scheme
use Rattle.kit_lbts.specs.Agreement.{AgreeingRule}
use Rattle.kit_lbts.specs.Progress.{lbts_first}
use Rattle.kit_lbts.proofs.AgreementEnds.{openings_agree}
use Rattle.kit_replay.specs.Replays.{LbtsFloor}
use Rattle.kit_replay.specs.Stages.{IsNewFloor}
use Rattle.kit_runner.proofs.stage.floor_of.Goals as goal

-- the rule holds on a floor for so many federates with so many buffers, where the federation says so
agreeing : (o : Opening) (p : Parts) (n b : ℕ) → o.federation.value ≡ p → IsFederation p → n ≡ length p.federates → b ≡ p.buffers
    → AgreeingRule zero_memory (places_at_first (lbts_first o) n b)
agreeing o p n b is sound many buffers =
    let A : ℕ → ℕ → Type 0 = λ k l. AgreeingRule zero_memory (places_at_first (lbts_first o) k l) in
    subst (λ (k : ℕ). A k b) (ap (λ (x : Parts). length x.federates) is ∙ sym many)
    (subst (λ (l : ℕ). A (length o.federation.value.federates) l) (ap (λ (x : Parts). x.buffers) is ∙ sym buffers) (openings_agree o (subst IsFederation (sym is) sound)))

pub new-requires-clause-rule : goal.new-requires-clause-rule
new-requires-clause-rule c =
    agreeing c.new-opening.result.value c.args.federation.now c.count.result c.buffers.result
    (ap (λ (o : Opening). o.federation.value) c.new-opening.ensures ∙ c.opening.ensures.federation)
    c.count.ensures.sound c.count.ensures.value c.buffers.ensures.value

new_for : (o : Opening) (p : Parts) (n b : ℕ) (f : LbtsFloor) → o.federation.value ≡ p → o.scheme ≡ scheme.Butterfly → n ≡ length p.federates → b ≡ p.buffers
    → f ≡ new_floor lbts_first o n b → IsNewFloor p f
new_for o p n b f is scheme_is many buffers new =
    let opening : f.opening ≡ o = ap (λ (x : LbtsFloor). x.opening) new in record {
      federation = ap (λ (x : Opening). x.federation.value) opening ∙ is;
      scheme = ap (λ (x : Opening). x.scheme) opening ∙ scheme_is;
      new = new ∙ (λ t. new_floor lbts_first (sym opening t) (many t) (buffers t));
    }

pub returns : goal.returns
returns c =
    IfOk-weaker _ _ _ (λ f new. new_for c.new-opening.result.value c.args.federation.now c.count.result c.buffers.result f
    (ap (λ (o : Opening). o.federation.value) c.new-opening.ensures ∙ c.opening.ensures.federation)
    (ap (λ (o : Opening). o.scheme) c.new-opening.ensures ∙ c.opening.ensures.scheme)
    c.count.ensures.value c.buffers.ensures.value new) c.new.ensures
