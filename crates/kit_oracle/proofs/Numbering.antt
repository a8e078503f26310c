-- Numbers in a world: each message is among its sender's own sends, and its number is below the sender's next.
use Rattle.std.proofs.Common.{◌≡◌, ℕ, inl, inr, ◌+◌, ◌<◌, ◌≤◌, List, [], ◌∷◌, length, drop, get_or, set, filter, arith, refl, sym, subst, ap, length-set, length-append}
use Rattle.std.specs.List.{AllByRecursion}
use Rattle.std.proofs.lemmas.Bool.{cases_eq}
use Rattle.std.proofs.lemmas.List.{get_or-set_other, get_or-set_same}
use Rattle.kit_base.specs.declared.message.Message.{Message}
use Rattle.kit_base.proofs.Lists.{all-append, all_filter, each_weaker}
use Rattle.kit_rules.specs.Parts.{Parts}
use Rattle.kit_rules.specs.declared.table.Trigger.TheVariants.{Grant, Got}
use Rattle.kit_rules.specs.declared.scene.State.{State}
use Rattle.kit_rules.specs.Step.{state_after}
use Rattle.kit_rules.proofs.Growth.{AreNumbered, AreNumbered-append}
use Rattle.kit_rules.proofs.Backs.{Aimed, aimed_by_step}
use Rattle.kit_rules.specs.Delivery.{is_due, due_messages}
use Rattle.kit_rules.specs.Simulation.{Seat, World, seat_at, nobody_seated, seat_after_pair, world_after_grant, after_deliveries}
use Rattle.kit_laws.proofs.Fitting.{all_in_order}
use Rattle.kit_laws.proofs.Numbers.{gained}
use Rattle.kit_laws.proofs.OwnSends.{from, own_after_grant}
use Rattle.kit_laws.proofs.Worlds.{grows_by_grant}

-- deliveries keep the aims of Retractions
aimed_by_deliveries : (p : Parts) (i d : ℕ) (s : State) (due : List Message) → Aimed s → Aimed (after_deliveries p i d s due)
aimed_by_deliveries p i d s [] h = h
aimed_by_deliveries p i d s (m ∷ ms) h = aimed_by_deliveries p i d (state_after p i (Got m.group) d m.value s) ms (aimed_by_step p i (Got m.group) d m.value s h)

-- so does a grant
pub aimed_by_grant : (p : Parts) (w : World) (g : ℕ × ℕ) → Aimed (seat_at w g.1).state → Aimed (seat_after_pair p w g).state
aimed_by_grant p w g h =
    let due = due_messages p g.1 g.0 (seat_at w g.1).got w.messages in
    aimed_by_step p g.1 Grant g.0 0 (after_deliveries p g.1 g.0 (seat_at w g.1).state due) (aimed_by_deliveries p g.1 g.0 (seat_at w g.1).state due h)

-- the number of a message is below its sender's next
abbrev pub Below : World → Message → Type 0
Below w x = x.number < (seat_at w x.sender).state.next

-- own sends of one federate
pub record OwnSends (w : World) (k : ℕ) : Type 0 where
  pub own : filter (from k) w.messages ≡ (seat_at w k).state.sends
  pub numbered : AreNumbered k 1 (seat_at w k).state.sends
  pub next : (seat_at w k).state.next ≡ 1 + length (seat_at w k).state.sends
  pub aimed : Aimed (seat_at w k).state
  pub got : AllByRecursion (Below w) (seat_at w k).got

pub record Counted (w : World) : Type 0 where
  pub below : AllByRecursion (Below w) w.messages
  pub each : (k : ℕ) → k < length w.seats → OwnSends w k

-- below the next, for a list that is numbered
pub below_numbered : (w : World) (k n : ℕ) (ms : List Message) → AreNumbered k n ms → n + length ms ≤ (seat_at w k).state.next → AllByRecursion (Below w) ms
below_numbered w k n [] h le = tt
below_numbered w k n (m ∷ ms) h le =
    let P : ℕ → Type 0 = λ s. m.number < (seat_at w s).state.next in
    (subst P (sym h.0) (let e : m.number ≡ n = h.1 in omega arith), below_numbered w k (n + 1) ms h.2 (omega arith))

-- nexts do not fall by a grant
below_after : (p : Parts) (w : World) (g : ℕ × ℕ) (x : Message) → g.1 < length w.seats → Below w x → Below (world_after_grant p w g) x
below_after p w g x lt h =
    let new = seat_after_pair p w g in
    let P : Seat → Type 0 = λ s. x.number < s.state.next in
    elim (cases_eq x.sender g.1) [
      | inl e ↦ (let Q : ℕ → Type 0 = λ k. x.number < (get_or (set w.seats g.1 new) k nobody_seated).state.next in
          let R : ℕ → Type 0 = λ k. x.number < (seat_at w k).state.next in
          let old : x.number < (seat_at w g.1).state.next = subst R e h in
          subst Q (sym e) (subst P (sym (get_or-set_same w.seats g.1 new nobody_seated lt)) (omega (arith, old, (grows_by_grant p w g).next))))
      | inr ne ↦ subst P (sym (get_or-set_other w.seats g.1 x.sender new nobody_seated ne)) h
    ]

-- a grant keeps all of this
pub granted_counted : (p : Parts) (w : World) (g : ℕ × ℕ) → g.1 < length w.seats → Counted w → Counted (world_after_grant p w g)
granted_counted p w g lt c =
    let old = seat_at w g.1 in
    let new = seat_after_pair p w g in
    let v = world_after_grant p w g in
    let gr = grows_by_grant p w g in
    let o = c.each g.1 lt in
    let made = drop (length old.state.sends) new.state.sends in
    let is : made ≡ gr.made = gained g.1 old.state new.state gr in
    let up : (xs : List Message) → AllByRecursion (Below w) xs → AllByRecursion (Below v) xs = λ xs h. each_weaker (Below w) (Below v) xs (λ x b. below_after p w g x lt b) h in
    let here : seat_at v g.1 ≡ new = get_or-set_same w.seats g.1 new nobody_seated lt in
    let top : gr.made ≡ gr.made = refl in
    let N : Seat → Type 0 = λ s. old.state.next + length gr.made ≤ s.state.next in
    let M : List Message → Type 0 = AllByRecursion (Below v) in
    record {
      below = all-append (Below v) w.messages made (up w.messages c.below) (subst M (sym is) (below_numbered v g.1 old.state.next gr.made gr.numbered (subst N (sym here) (omega (arith, gr.next)))));
      each = λ k inside.
          let has : k < length w.seats = omega (arith, length-set w.seats g.1 new) in
          elim (cases_eq k g.1) [
            | inl e ↦ (let Q : ℕ → Type 0 = λ k. OwnSends v k in
                let T : Seat → Type 0 = λ s. AreNumbered g.1 1 s.state.sends in
                let U : Seat → Type 0 = λ s. s.state.next ≡ 1 + length s.state.sends in
                let V : Seat → Type 0 = λ s. Aimed s.state in
                let W : Seat → Type 0 = λ s. AllByRecursion (Below v) s.got in
                let L : List Message → Type 0 = AreNumbered g.1 1 in
                let K : ℕ → Type 0 = λ n. AreNumbered g.1 n gr.made in
                let due : AllByRecursion (Below v) (due_messages p g.1 g.0 old.got w.messages) =
                up (due_messages p g.1 g.0 old.got w.messages) (all_in_order (Below w) [] (filter (is_due p g.1 g.0 old.got w.messages) w.messages) tt (all_filter (Below w) (is_due p g.1 g.0 old.got w.messages) w.messages c.below)) in
                subst Q (sym e) (record {
                  own = own_after_grant p w g g.1 lt o.own;
                  numbered = subst T (sym here) (subst L (sym gr.sends) (AreNumbered-append g.1 1 old.state.sends gr.made o.numbered (subst K o.next gr.numbered)));
                  next = subst U (sym here) (omega (arith, gr.next, o.next, ap length gr.sends, length-append old.state.sends gr.made));
                  aimed = subst V (sym here) (aimed_by_grant p w g o.aimed);
                  got = subst W (sym here) (all-append (Below v) old.got (due_messages p g.1 g.0 old.got w.messages) (up old.got o.got) due);
                }))
            | inr ne ↦ (let same : seat_at v k ≡ seat_at w k = get_or-set_other w.seats g.1 k new nobody_seated ne in
                let b = c.each k has in
                let T : Seat → Type 0 = λ s. AreNumbered k 1 s.state.sends in
                let U : Seat → Type 0 = λ s. s.state.next ≡ 1 + length s.state.sends in
                let V : Seat → Type 0 = λ s. Aimed s.state in
                let W : Seat → Type 0 = λ s. AllByRecursion (Below v) s.got in
                record {
                  own = own_after_grant p w g k lt b.own;
                  numbered = subst T (sym same) b.numbered;
                  next = subst U (sym same) b.next;
                  aimed = subst V (sym same) b.aimed;
                  got = subst W (sym same) (up (seat_at w k).got b.got);
                })
          ];
    }
