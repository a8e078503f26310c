-- past the tests that hold, up to the one that fails, or to the message
use Rattle.std.proofs.Common.{◌≡◌, Result, Ok, not, sym, ap, ◌∙◌, rules}
use Rattle.serde_json.specs.View.{view}
use Rattle.kit_base.specs.declared.message.Message.{Message}
use Rattle.kit_walk.specs.declared.fault.Fault.{Fault}
use Rattle.kit_walk.specs.Agreement.{Fails}
use Rattle.kit_restore.specs.CutWalk.{row_of, message_of}
use Rattle.kit_restore.proofs.Guards.{past, past_test, stop}
use Rattle.kit_restore.proofs.pending_events.message_here.Goals as goal

pub returns-in_err-test_here-clause-exact : goal.returns-in_err-test_here-clause-exact
unfolding message_of
returns-in_err-test_here-clause-exact c =
    let row = c.as_slice-row.result.now in
    let e = c.in_err-test_here.field-0.0 in
    let read : row_of 5 (view c.args.value.now) ≡ Ok row = c.in_ok-row.ensures.exact ∙ ap Ok (sym c.as_slice-row.ensures.value) in
    let fails : Fails e (message_of c.args.federation.now c.args.i c.args.from c.args.nexts.now c.args.done.now (view c.args.value.now)) =
    past _ _ (Fails e) row read
    (stop _ _ _ _ _ e c.has_risen.ensures c.in_err-test_here.ensures.exact) in
    search rules

pub returns-in_err-test_here-2-clause-exact : goal.returns-in_err-test_here-2-clause-exact
unfolding message_of
returns-in_err-test_here-2-clause-exact c =
    let row = c.as_slice-row.result.now in
    let e = c.in_err-test_here-2.field-0.0 in
    let read : row_of 5 (view c.args.value.now) ≡ Ok row = c.in_ok-row.ensures.exact ∙ ap Ok (sym c.as_slice-row.ensures.value) in
    let fails : Fails e (message_of c.args.federation.now c.args.i c.args.from c.args.nexts.now c.args.done.now (view c.args.value.now)) =
    past _ _ (Fails e) row read
    (past_test _ _ _ (Fails e) _ _ c.has_risen.ensures c.in_ok-test_here.ensures.holds
    (stop _ _ _ _ _ e (ap not (c.is_repeated.ensures c.args.done.now c.requires.noted)) c.in_err-test_here-2.ensures.exact)) in
    search rules

pub returns-in_err-test_at-clause-exact : goal.returns-in_err-test_at-clause-exact
unfolding message_of
returns-in_err-test_at-clause-exact c =
    let row = c.as_slice-row.result.now in
    let e = c.in_err-test_at.field-0.0 in
    let read : row_of 5 (view c.args.value.now) ≡ Ok row = c.in_ok-row.ensures.exact ∙ ap Ok (sym c.as_slice-row.ensures.value) in
    let fails : Fails e (message_of c.args.federation.now c.args.i c.args.from c.args.nexts.now c.args.done.now (view c.args.value.now)) =
    past _ _ (Fails e) row read
    (past_test _ _ _ (Fails e) _ _ c.has_risen.ensures c.in_ok-test_here.ensures.holds
    (past_test _ _ _ (Fails e) _ _ (ap not (c.is_repeated.ensures c.args.done.now c.requires.noted)) c.in_ok-test_here-2.ensures.holds
    (stop _ _ _ _ _ e c.is_timely.ensures c.in_err-test_at.ensures.exact))) in
    search rules

pub returns-in_err-test_at-2-clause-exact : goal.returns-in_err-test_at-2-clause-exact
unfolding message_of
returns-in_err-test_at-2-clause-exact c =
    let row = c.as_slice-row.result.now in
    let e = c.in_err-test_at-2.field-0.0 in
    let read : row_of 5 (view c.args.value.now) ≡ Ok row = c.in_ok-row.ensures.exact ∙ ap Ok (sym c.as_slice-row.ensures.value) in
    let fails : Fails e (message_of c.args.federation.now c.args.i c.args.from c.args.nexts.now c.args.done.now (view c.args.value.now)) =
    past _ _ (Fails e) row read
    (past_test _ _ _ (Fails e) _ _ c.has_risen.ensures c.in_ok-test_here.ensures.holds
    (past_test _ _ _ (Fails e) _ _ (ap not (c.is_repeated.ensures c.args.done.now c.requires.noted)) c.in_ok-test_here-2.ensures.holds
    (past_test _ _ _ (Fails e) _ _ c.is_timely.ensures c.in_ok-test_at.ensures.holds
    (stop _ _ _ _ _ e c.is_regulating.ensures c.in_err-test_at-2.ensures.exact)))) in
    search rules

pub returns-in_err-test_at-3-clause-exact : goal.returns-in_err-test_at-3-clause-exact
unfolding message_of
returns-in_err-test_at-3-clause-exact c =
    let row = c.as_slice-row.result.now in
    let e = c.in_err-test_at-3.field-0.0 in
    let read : row_of 5 (view c.args.value.now) ≡ Ok row = c.in_ok-row.ensures.exact ∙ ap Ok (sym c.as_slice-row.ensures.value) in
    let fails : Fails e (message_of c.args.federation.now c.args.i c.args.from c.args.nexts.now c.args.done.now (view c.args.value.now)) =
    past _ _ (Fails e) row read
    (past_test _ _ _ (Fails e) _ _ c.has_risen.ensures c.in_ok-test_here.ensures.holds
    (past_test _ _ _ (Fails e) _ _ (ap not (c.is_repeated.ensures c.args.done.now c.requires.noted)) c.in_ok-test_here-2.ensures.holds
    (past_test _ _ _ (Fails e) _ _ c.is_timely.ensures c.in_ok-test_at.ensures.holds
    (past_test _ _ _ (Fails e) _ _ c.is_regulating.ensures c.in_ok-test_at-2.ensures.holds
    (stop _ _ _ _ _ e c.is_below_next.ensures c.in_err-test_at-3.ensures.exact))))) in
    search rules

pub returns-in_err-test_at-4-clause-exact : goal.returns-in_err-test_at-4-clause-exact
unfolding message_of
returns-in_err-test_at-4-clause-exact c =
    let row = c.as_slice-row.result.now in
    let e = c.in_err-test_at-4.field-0.0 in
    let read : row_of 5 (view c.args.value.now) ≡ Ok row = c.in_ok-row.ensures.exact ∙ ap Ok (sym c.as_slice-row.ensures.value) in
    let fails : Fails e (message_of c.args.federation.now c.args.i c.args.from c.args.nexts.now c.args.done.now (view c.args.value.now)) =
    past _ _ (Fails e) row read
    (past_test _ _ _ (Fails e) _ _ c.has_risen.ensures c.in_ok-test_here.ensures.holds
    (past_test _ _ _ (Fails e) _ _ (ap not (c.is_repeated.ensures c.args.done.now c.requires.noted)) c.in_ok-test_here-2.ensures.holds
    (past_test _ _ _ (Fails e) _ _ c.is_timely.ensures c.in_ok-test_at.ensures.holds
    (past_test _ _ _ (Fails e) _ _ c.is_regulating.ensures c.in_ok-test_at-2.ensures.holds
    (past_test _ _ _ (Fails e) _ _ c.is_below_next.ensures c.in_ok-test_at-3.ensures.holds
    (stop _ _ _ _ _ e c.is_receiver.ensures c.in_err-test_at-4.ensures.exact)))))) in
    search rules

pub returns-in_err-test_at-5-clause-exact : goal.returns-in_err-test_at-5-clause-exact
unfolding message_of
returns-in_err-test_at-5-clause-exact c =
    let row = c.as_slice-row.result.now in
    let e = c.in_err-test_at-5.field-0.0 in
    let read : row_of 5 (view c.args.value.now) ≡ Ok row = c.in_ok-row.ensures.exact ∙ ap Ok (sym c.as_slice-row.ensures.value) in
    let fails : Fails e (message_of c.args.federation.now c.args.i c.args.from c.args.nexts.now c.args.done.now (view c.args.value.now)) =
    past _ _ (Fails e) row read
    (past_test _ _ _ (Fails e) _ _ c.has_risen.ensures c.in_ok-test_here.ensures.holds
    (past_test _ _ _ (Fails e) _ _ (ap not (c.is_repeated.ensures c.args.done.now c.requires.noted)) c.in_ok-test_here-2.ensures.holds
    (past_test _ _ _ (Fails e) _ _ c.is_timely.ensures c.in_ok-test_at.ensures.holds
    (past_test _ _ _ (Fails e) _ _ c.is_regulating.ensures c.in_ok-test_at-2.ensures.holds
    (past_test _ _ _ (Fails e) _ _ c.is_below_next.ensures c.in_ok-test_at-3.ensures.holds
    (past_test _ _ _ (Fails e) _ _ c.is_receiver.ensures c.in_ok-test_at-4.ensures.holds
    (stop _ _ _ _ _ e c.is_value.ensures c.in_err-test_at-5.ensures.exact))))))) in
    search rules

pub returns-clause-exact : goal.returns-clause-exact
unfolding message_of
returns-clause-exact c =
    let row = c.as_slice-row.result.now in
    let P : Result Message Fault → Type 0 = λ r. r ≡ Ok c.message_in.result in
    let read : row_of 5 (view c.args.value.now) ≡ Ok row = c.in_ok-row.ensures.exact ∙ ap Ok (sym c.as_slice-row.ensures.value) in
    past _ _ P row read
    (past_test _ _ _ P _ _ c.has_risen.ensures c.in_ok-test_here.ensures.holds
    (past_test _ _ _ P _ _ (ap not (c.is_repeated.ensures c.args.done.now c.requires.noted)) c.in_ok-test_here-2.ensures.holds
    (past_test _ _ _ P _ _ c.is_timely.ensures c.in_ok-test_at.ensures.holds
    (past_test _ _ _ P _ _ c.is_regulating.ensures c.in_ok-test_at-2.ensures.holds
    (past_test _ _ _ P _ _ c.is_below_next.ensures c.in_ok-test_at-3.ensures.holds
    (past_test _ _ _ P _ _ c.is_receiver.ensures c.in_ok-test_at-4.ensures.holds
    (past_test _ _ _ P _ _ c.is_value.ensures c.in_ok-test_at-5.ensures.holds
    (ap Ok (sym c.message_in.ensures)))))))))
