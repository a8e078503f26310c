use Rattle.std.proofs.Common.{◌≡◌, ◌∙◌, ◌++◌, [], ◌∷◌, ℕ, ap, sym, arith, Some, Err, map}
use Rattle.std.specs.List.{range_with_len}
use Rattle.kit_rules.specs.Simulation.{seat_at_start, spender, start_spender}
use Rattle.kit_oracle.specs.Desks.{desks_of_seats_from}
use Rattle.kit_laws.proofs.Worlds.{started_more, start_none, start_past, spent_at_start}
use Rattle.kit_oracle.proofs.Progress.{spent_end, shown_more}
use Rattle.kit_oracle.proofs.opening.open_each.Goals as goal

pub returns-in-Err-clause-at_start : goal.returns-in-Err-clause-at_start
returns-in-Err-clause-at_start c =
    let P : ℕ → Type 0 = λ i. start_spender c.args.federation.now ≡ Some i in
    rw c.end_of.ensures (spent_end c.in-Err.end c.loop-i.i P (λ e.
    start_past c.args.federation.now c.loop-i.i (omega arith) (rw c.loop-i.invariant.made at c.loop-i.invariant.none) (c.in-Err.ensures.spent (ap Err e))))

pub returns-in-Err-clause-spent : goal.returns-in-Err-clause-spent
returns-in-Err-clause-spent c =
    let P : ℕ → Type 0 = λ i. spender c.args.federation.now ≡ Some i in
    rw c.end_of.ensures (spent_end c.in-Err.end c.loop-i.i P (λ e.
    spent_at_start c.args.federation.now c.loop-i.i
    (start_past c.args.federation.now c.loop-i.i (omega arith) (rw c.loop-i.invariant.made at c.loop-i.invariant.none) (c.in-Err.ensures.spent (ap Err e)))))

pub loop-i-preserved : goal.loop-i-preserved
loop-i-preserved c = record {
  desks = c.in_ok-push-in-Ok.ensures.items ∙ ap (λ xs. xs ++ c.in-Ok.desk ∷ []) c.loop-i.invariant.desks
      ∙ ap (λ d. desks_of_seats_from c.args.federation.now [] 0 (map (seat_at_start c.args.federation.now) (range_with_len 0 c.loop-i.i)) ++ d ∷ []) c.in-Ok.ensures.desk
      ∙ sym (shown_more c.args.federation.now c.loop-i.i);
  made = c.in-Ok.ensures.made ∙ ap (λ xs. xs ++ (seat_at_start c.args.federation.now c.loop-i.i).state.sends) c.loop-i.invariant.made ∙ sym (started_more c.args.federation.now c.loop-i.i);
  none = rw c.in-Ok.ensures.made (start_none c.args.federation.now c.loop-i.i c.loop-i.made.items c.loop-i.invariant.none c.in-Ok.ensures.room);
}
