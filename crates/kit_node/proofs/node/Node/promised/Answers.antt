use Rattle.std.proofs.Common.{◌≡◌, ◌↔◌, ℕ, ◌+◌, Bool, true, false, not, List, [], ◌∷◌, refl, sym, ap, ◌∙◌}
use Rattle.std.proofs.lemmas.Bool.{false≢true}
use Rattle.std.proofs.Common.{◌<◌, length, subst}
use Rattle.std.specs.Prelude.{Option, IsTrue, IfSome, unwrap_or, is_none, if◌then◌else◌}
use Rattle.std.proofs.lemmas.List.Elements.{All-get_or}
use Rattle.kit_rules.specs.Federation.{IsFederate, IsFederation, IsStep}
use Rattle.kit_rules.specs.Parts.{Parts, federate_at, nobody}
use Rattle.kit_base.specs.declared.message.Message.{Message}
use Rattle.kit_queue.specs.declared.entry.Entry.{Entry}
use Rattle.kit_rules.specs.declared.table.Request.{Request}
use Rattle.kit_rules.specs.Parts.{effective_lookahead}
use Rattle.kit_lbts.specs.Promises.{promise_by}
use Rattle.kit_lbts.specs.Views.{is_empty}
use Rattle.kit_rules.specs.Delivery.{request_due}
use Rattle.kit_node.specs.Fields.{waiting_in}
use Rattle.kit_node.specs.Reducing.{due_at}
use Rattle.kit_node.proofs.node.Node.promised.Goals as goal

-- a test of a list that says whether it has no element
empty_is : (b : Bool) (l : List Message) → (IsTrue b ↔ (l ≡ [])) → b ≡ is_empty l
empty_is true [] h = refl
empty_is false [] h = absurd (false≢true (h.1 refl))
empty_is true (x ∷ l) h = absurd (cc (h.0 refl))
empty_is false (x ∷ l) h = refl

-- a federate's lookahead is a step
steps_ahead : (f : Parts) (k : ℕ) (o : Option ℕ) → k < length f.federates → IsFederation f → o ≡ (federate_at f k).lookahead → IfSome o IsStep
steps_ahead f k o lt sound is = subst (λ (x : Option ℕ). IfSome x IsStep) (sym is) (All-get_or (IsFederate (length f.groups)) f.federates k nobody lt sound.federates.each).lookahead

pub promise-requires-clause-lookahead : goal.promise-requires-clause-lookahead
promise-requires-clause-lookahead g c = steps_ahead c.args.federation.now c.args.self.now.me _ c.requires.me c.end-end.ensures.sound c.lookahead_of-lookahead.ensures

pub promise-requires-in-None-clause-lookahead : goal.promise-requires-in-None-clause-lookahead
promise-requires-in-None-clause-lookahead g c = steps_ahead c.args.federation.now c.args.self.now.me _ c.requires.me c.end-end.ensures.sound c.lookahead_of-lookahead.ensures

pub returns-in-Some-clause-value : goal.returns-in-Some-clause-value
unfolding effective_lookahead
returns-in-Some-clause-value g c =
    let n = c.args.self.now in
    let es : List Entry = g.Q.Order.entries n.inbox.queue in
    let ms : List Message = waiting_in n.outbox in
    let asked = c.in-Some.is in
    let due = c.due-due.ensures ∙ (ap (request_due c.in-Some.request) c.least.ensures.first ∙ sym (ap (λ (r : Option Request). due_at r es) asked)) in
    let waits = ap not (empty_is c.is_empty-waiting.result ms c.is_empty-waiting.ensures) ∙ sym (ap (λ (r : Option Request). if is_none r then true else not (is_empty ms)) asked) in
    c.promise.ensures ∙ (λ i. promise_by (c.end-end.ensures.value i) (unwrap_or (c.lookahead_of-lookahead.ensures i) (c.end-end.ensures.value i + 1)) n.course.now (due i) (waits i))

pub returns-in-None-clause-value : goal.returns-in-None-clause-value
unfolding effective_lookahead
returns-in-None-clause-value g c =
    let n = c.args.self.now in
    let es : List Entry = g.Q.Order.entries n.inbox.queue in
    let ms : List Message = waiting_in n.outbox in
    let asked = c.in-None.is in
    let due = sym (ap (λ (r : Option Request). due_at r es) asked) in
    let waits = sym (ap (λ (r : Option Request). if is_none r then true else not (is_empty ms)) asked) in
    c.promise-in-None.ensures ∙ (λ i. promise_by (c.end-end.ensures.value i) (unwrap_or (c.lookahead_of-lookahead.ensures i) (c.end-end.ensures.value i + 1)) n.course.now (due i) (waits i))
