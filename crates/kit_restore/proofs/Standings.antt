-- What was read of a federate.
use Rattle.std.proofs.Common.{◌≡◌, ℕ, ◌+◌, ◌-◌, ◌^◌, ◌≤◌, List, [], ◌∷◌, length, Option, Some, None, Ok, nat_lt, codes, refl, subst, ◌∙◌, inl, inr, arith}
use Rattle.std.specs.Prelude.{slice_index, replicate}
use Rattle.std.specs.List.{All}
use Rattle.std.proofs.lemmas.Bool.{cases_lt}
use Rattle.std.proofs.lemmas.List.{get_or-replicate, get_or_past, get_or-append_right, length-replicate}
use Rattle.std.proofs.lemmas.List.Elements.{All-head}
use Rattle.serde_json.specs.Data.{Data}
use Rattle.kit_base.specs.declared.message.Message.{Message}
use Rattle.kit_rules.specs.declared.table.Request.{Request}
use Rattle.kit_rules.specs.Parts.{Parts, federate_at}
use Rattle.kit_walk.specs.Places.{object, number}
use Rattle.kit_cut.specs.declared.cut.Standing.{Standing}
use Rattle.kit_cut.specs.ValidCuts.{earliest, IsPendingMessage, AreTimely, ArePending, IsAsking, IsStanding}
use Rattle.kit_restore.specs.CutWalk.{numbers_of, standing_wish_of, request_if, owns_of, messages_of, earliest_by, with_unused, standing_of}
use Rattle.kit_restore.proofs.Answered.{bind_ok, gave_same, number_ok}
use Rattle.kit_restore.proofs.Numbers.{numbers_within}
use Rattle.kit_restore.proofs.Asking.{wish_is, asking_is}
use Rattle.kit_restore.proofs.Own.{owns_are}
use Rattle.kit_restore.proofs.Pending.{AreRead, messages_are}

-- zeros are 0, and so is what stands past them
zeros : (n k : ℕ) → slice_index (replicate n 0) k ≡ 0
zeros n k =
    elim (cases_lt k n) [
      | inl lt ↦ get_or-replicate n k 0 0 lt
      | inr le ↦ (let long : length (replicate {A = ℕ} n 0) ≡ n = length-replicate n 0 in get_or_past (replicate n 0) k 0 (omega (arith, long, le)))
    ]

-- the places that are left are 0
left_zero : (vars : List ℕ) (count k : ℕ) → length vars ≡ count → count ≤ k → slice_index (with_unused vars) k ≡ 0
left_zero vars count k is le = get_or-append_right vars (replicate (8 - length vars) 0) count k 0 is le ∙ zeros (8 - length vars) (k - count)

-- nothing is pending from after the end on
none_past : (p : Parts) (i now : ℕ) (nexts : List ℕ) (ms : List Message) → p.end ≤ now → All (IsPendingMessage p i (now + 1) nexts) ms → ms ≡ []
none_past p i now nexts [] le h = refl
none_past p i now nexts (m ∷ ms) le h =
    let first : IsPendingMessage p i (now + 1) nexts m = All-head (IsPendingMessage p i (now + 1) nexts) m ms h in
    absurd (omega (arith, first.low, first.high, le))

-- what is pending is timely by the request
timely : (p : Parts) (at : ℕ) (nexts : List ℕ) (i now : ℕ) (o : Option Request) (ms : List Message) → IsAsking at p.end now o → All (IsPendingMessage p i (earliest_by at now o) nexts) ms → AreTimely p at nexts i now o ms
timely p at nexts i now (Some q) ms asks h = record {
  asked = λ r e. let same : q ≡ r = cc in subst (λ (r : Request). All (IsPendingMessage p i (earliest at now r) nexts) ms) same h;
  unasked = λ e. absurd (cc);
}
timely p at nexts i now None ms asks h = record {
  asked = λ r e. absurd (cc);
  unasked = λ e. elim (cases_lt now p.end) [ inl lt ↦ absurd (asks.below lt) | inr le ↦ none_past p i now nexts ms le h ];
}

-- the list pending that was read
pending_are : (p : Parts) (at : ℕ) (nexts : List ℕ) (i now : ℕ) (o : Option Request) (ms : List Message) → IsAsking at p.end now o → AreRead p i (earliest_by at now o) nexts ms → ArePending p at nexts i now o ms
pending_are p at nexts i now o ms asks are = record { few = are.few; rise = are.rise; differ = are.differ; each = timely p at nexts i now o ms asks are.each }

-- what was read of a federate can be gone on from
pub standing_is : (p : Parts) (at : ℕ) (nexts : List ℕ) (i : ℕ) (d : Data) (s : Standing) → standing_of p at nexts i d ≡ Ok s → IsStanding p at nexts i s
unfolding standing_of
standing_is p at nexts i d s e =
    let u = bind_ok (object d) _ s e in
    let now = bind_ok (number (codes "now") 0 at d) _ s u.2 in
    let vars = bind_ok (numbers_of (codes "vars") (length (federate_at p i).vars) 0 (2 ^ 32 - 1) d) _ s now.2 in
    let wish = bind_ok (standing_wish_of d) _ s vars.2 in
    let request = bind_ok (request_if (nat_lt now.0 p.end) at p.end d) _ s wish.2 in
    let own = bind_ok (owns_of p i now.0 (slice_index nexts i) d) _ s request.2 in
    let pending = bind_ok (messages_of p i (earliest_by at now.0 request.0) nexts d) _ s own.2 in
    let many = numbers_within (codes "vars") (length (federate_at p i).vars) 0 (2 ^ 32 - 1) d vars.0 vars.1 in
    let asks = asking_is at p.end now.0 d request.0 request.1 in
    let read : Standing = record { now = now.0; vars = with_unused vars.0; wish = wish.0; request = request.0; own = own.0; pending = pending.0 } in
    let is : IsStanding p at nexts i read = record {
      now = (number_ok (codes "now") 0 at d now.0 now.1).1;
      unused = λ k le. left_zero vars.0 (length (federate_at p i).vars) k many.1 le;
      wish = wish_is d wish.0 wish.1;
      asks = asks;
      own = owns_are p i now.0 (slice_index nexts i) d own.0 own.1;
      pending = pending_are p at nexts i now.0 request.0 pending.0 asks (messages_are p i (earliest_by at now.0 request.0) nexts d pending.0 pending.1);
    } in
    subst (IsStanding p at nexts i) (gave_same read s pending.2) is
