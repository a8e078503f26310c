use Rattle.std.proofs.Common.{◌≡◌, ℕ, Bool, true, false, not, ◌||◌, get_or, take, add-one, arith, refl, sym, ap, ◌∙◌}
use Rattle.std.specs.List.{list_any}
use Rattle.std.proofs.lemmas.Bool.{not-true}
use Rattle.kit_rules.specs.Step.{no_message}
use Rattle.kit_cut.proofs.Seen.{has_number, none_seen, any_more, differ_more, seen_before}
use Rattle.kit_cut.proofs.numbers.numbers_differ.Goals as goal

pub loop-message-init : goal.loop-message-init
loop-message-init c = record { seen = λ number sender. none_seen 16385 number sender; differ = λ j k d lt below. absurd (omega arith) }

was_true : (b : Bool) → not b ≡ false → b ≡ true
was_true true h = refl
was_true false h = absurd (cc)

pub returns-then-not-note : goal.returns-then-not-note
returns-then-not-note c =
    let xs = c.args.messages.now in
    let i = c.loop-message.message-index in
    let m = get_or xs i no_message in (
      (λ no. absurd (cc)),
      λ pairs. absurd (seen_before xs i no_message c.loop-message-test.true (sym (c.loop-message.invariant.seen m.number m.sender) ∙ was_true _ (sym c.note.ensures.new ∙ c.if-not-note.true)) pairs),
    )

pub loop-message-preserved : goal.loop-message-preserved
loop-message-preserved c =
    let xs = c.args.messages.now in
    let i = c.loop-message.message-index in
    let m = get_or xs i no_message in
    let s = c.loop-message.invariant.seen in
    record {
      seen = λ number sender.
          c.note.ensures.noted number sender ∙ ap (λ b. b || has_number number sender m) (s number sender)
          ∙ sym (ap (λ (n : ℕ). list_any (has_number number sender) (take n xs)) (add-one i) ∙ any_more (has_number number sender) xs i no_message c.loop-message-test.true);
      differ = differ_more xs i no_message c.loop-message-test.true (sym (s m.number m.sender) ∙ not-true _ (sym c.note.ensures.new ∙ c.if-not-note.false)) c.loop-message.invariant.differ;
    }
