-- A look at an own count.
use Rattle.std.proofs.Common.{◌≡◌, ◌≢◌, ℕ, ◌+◌, ◌<◌, ◌≤◌, Bool, true, false, length, refl, sym, ap, ◌∙◌, subst, arith, get_or-set_same, get_or-set_other}
use Rattle.std.specs.Prelude.{slice_index_or, None}
use mathlib.Core.Logic.{dite}
use native.Mathlib.Decide.{ℕ_discrete}
use Rattle.kit_ground.specs.declared.place.Buffer.{Buffer}
use Rattle.kit_ground.specs.declared.place.Deed.TheVariants.{SawFree}
use Rattle.kit_ground.specs.declared.place.Glance.{Glance}
use Rattle.kit_ground.specs.declared.place.Place.{Place}
use Rattle.kit_ground.specs.Steps.{buffer_after_look, buffer_of, fresh_buffer, place_after}
use Rattle.kit_ground.proofs.WorldFacts.{buffers_long, fits_here}
use Rattle.kit_lbts.specs.declared.view.LbtsView.{LbtsView}
use Rattle.kit_lbts.specs.Agreement.{agreeing_rule}
use Rattle.kit_lbts.specs.Progress.{view_after}
use Rattle.kit_lbts.specs.SeatLaws.{IsInWorld}
use Rattle.kit_node.specs.Frames.{last_count}
use Rattle.kit_node.specs.Looks.{HasFound, HasFoundNone, LooksAtCounts}

abbrev P : Type 0
P = Place LbtsView

abbrev pub looked : P → ℕ → Bool → P
looked q k free = place_after view_after (SawFree k free) q

pub in_stock : (p : P) (k : ℕ) → k < p.own.buffers → IsInWorld p → k < length p.own.stock.buffers
in_stock p k lk w = let long = buffers_long agreeing_rule p w.0 w.1 w.2 in omega arith

pub in_counts : (p : P) (k : ℕ) → k < p.own.buffers → IsInWorld p → k < length p.own.counts
in_counts p k lk w = let long = (fits_here agreeing_rule p w.0 w.1 w.2).counts in omega arith

pub leaves : (q : P) (k : ℕ) (free : Bool) → LooksAtCounts q (looked q k free)
leaves q k free = record { seat = record { number = refl; federates = refl; buffers = refl; steps = omega arith; stops = refl }; registers = refl; mail = refl; stop = refl; shown = refl; collects = refl; holds = refl; view = refl }

pub leaves_on : (p q r : P) → LooksAtCounts p q → LooksAtCounts q r → LooksAtCounts p r
leaves_on p q r a b = record {
  seat = record {
    number = b.seat.number ∙ a.seat.number;
    federates = b.seat.federates ∙ a.seat.federates;
    buffers = b.seat.buffers ∙ a.seat.buffers;
    steps = let x = a.seat.steps in let y = b.seat.steps in omega arith;
    stops = b.seat.stops ∙ a.seat.stops;
  };
  registers = b.registers ∙ a.registers;
  mail = b.mail ∙ a.mail;
  stop = b.stop ∙ a.stop;
  shown = b.shown ∙ a.shown;
  collects = b.collects ∙ a.collects;
  holds = b.holds ∙ a.holds;
  view = b.view ∙ a.view;
}

abbrev glance : P → Bool → Glance Bool
glance q free = record { step = q.own.steps + 1; gave = free }

count_here : (q : P) (k : ℕ) (free : Bool) → k < length q.own.counts → last_count (looked q k free) k ≡ glance q free
count_here q k free lk = get_or-set_same q.own.counts k (glance q free) (record { step = 0; gave = false }) lk

count_else : (q : P) (k x : ℕ) (free : Bool) → x ≢ k → last_count (looked q k free) x ≡ last_count q x
count_else q k x free other = get_or-set_other q.own.counts k x (glance q free) (record { step = 0; gave = false }) other

buffer_here : (q : P) (k : ℕ) (free : Bool) → k < length q.own.stock.buffers → buffer_of (looked q k free).own.stock k ≡ buffer_after_look free (buffer_of q.own.stock k)
buffer_here q k free lk = get_or-set_same q.own.stock.buffers k (buffer_after_look free (buffer_of q.own.stock k)) fresh_buffer lk

pub finds : (p q : P) (k : ℕ) → p.own.steps ≤ q.own.steps → k < q.own.buffers → k < length q.own.counts → k < length q.own.stock.buffers → HasFound p (looked q k true) k
finds p q k later inside lk ls =
    let is = count_here q k true lk in
    record { inside = inside; since = subst (λ (s : Glance Bool). p.own.steps < s.step) (sym is) (omega arith); gave = ap (λ (s : Glance Bool). s.gave) is; free = ap (λ (c : Buffer). c.free) (buffer_here q k true ls) }

pub finds_none : (p q : P) (k : ℕ) → p.own.steps ≤ q.own.steps → k < length q.own.counts → HasFoundNone p k q → HasFoundNone p (k + 1) (looked q k false)
finds_none p q k later lk before x below = dite (ℕ_discrete x k)
    (λ same. let F : ℕ → Type 0 = λ y. (p.own.steps < (last_count (looked q k false) y).step) × ((last_count (looked q k false) y).gave ≡ false) in
    let is = count_here q k false lk in
    subst F (sym same) (subst (λ (s : Glance Bool). p.own.steps < s.step) (sym is) (omega arith), ap (λ (s : Glance Bool). s.gave) is))
    (λ other. let F : Glance Bool → Type 0 = λ s. (p.own.steps < s.step) × (s.gave ≡ false) in subst F (sym (count_else q k x false other)) (before x (omega arith)))
