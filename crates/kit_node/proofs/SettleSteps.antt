-- The return of one buffer after another, of entries that are timed below a bound.
use Rattle.std.proofs.Common.{◌≡◌, ℕ, ◌<◌, Bool, true, false, not, List, [], map, filter, refl, sym, ap, ◌∙◌, subst, arith}
use Rattle.std.specs.Prelude.{None, Some, count_by, if◌then◌else◌}
use Rattle.std.specs.List.{list_any}
use Rattle.kit_ground.specs.declared.place.Deed.TheVariants.{Released}
use Rattle.kit_ground.specs.declared.place.Place.{Place}
use Rattle.kit_ground.specs.Steps.{place_after}
use Rattle.kit_queue.specs.declared.entry.Entry.{Entry}
use Rattle.kit_queue.specs.Entries.{first_buffer, is_settleable, with_first_settled, without_buffer}
use Rattle.kit_lbts.specs.declared.view.LbtsView.{LbtsView}
use Rattle.kit_lbts.specs.declared.view.Spent.{Spent}
use Rattle.kit_lbts.specs.MessageLaws.{MaySettleFirst}
use Rattle.kit_lbts.specs.Progress.{put_down, view_after}
use Rattle.kit_lbts.specs.Seats.{waits_in}
use Rattle.kit_lbts.specs.Views.{is_spent}
use Rattle.kit_node.specs.Frames.{IsSameSeat}
use Rattle.kit_node.specs.Settling.{HasSettled, settled_below}
use Rattle.kit_node.proofs.Settlings.{fewer, none_settled, settled_again}

abbrev P : Type 0
P = Place LbtsView

-- from p to q some entries were settled, and the others are still to be
pub record SettlesOn (bound : ℕ) (released : Bool) (p q : P) : Type 0 where
  pub seat : IsSameSeat p q
  pub registers : q.own.registers ≡ p.own.registers
  pub counts : q.own.counts ≡ p.own.counts
  pub mail : q.own.mail ≡ p.own.mail
  pub stop : q.own.stop ≡ p.own.stop
  pub shown : q.own.shown ≡ p.own.shown
  pub collects : q.own.collects ≡ p.own.collects
  pub buffers : q.own.stock.buffers ≡ p.own.stock.buffers
  pub view : q.client ≡ record p.client { queue = q.client.queue }
  pub rest : settled_below bound q.client.queue ≡ settled_below bound p.client.queue
  pub none : released ≡ false → q ≡ p
  pub some : released ≡ true → 0 < count_by (is_settleable bound) p.client.queue

pub settles_first : (bound : ℕ) (p : P) → SettlesOn bound false p p
settles_first bound p = record {
  seat = record { number = refl; federates = refl; buffers = refl; steps = omega arith; stops = refl };
  registers = refl;
  counts = refl;
  mail = refl;
  stop = refl;
  shown = refl;
  collects = refl;
  buffers = refl;
  view = refl;
  rest = refl;
  none = λ _. refl;
  some = λ e. absurd (cc);
}

-- where nothing else is to be given back, a release is of an entry's buffer
down_queue : (i k : ℕ) (v : LbtsView) → v.spent ≡ [] → put_down i k v ≡ record v { queue = (put_down i k v).queue }
down_queue i k v none =
    let Q : List Entry = map (λ (e : Entry). if waits_in i k e then without_buffer e else e) v.queue in
    let F : Bool → LbtsView = λ b. if b then record v { spent = filter (λ (s : Spent). not (is_spent i k s)) v.spent } else record v { queue = Q } in
    let not_spent : list_any (is_spent i k) v.spent ≡ false = ap (list_any (is_spent i k)) none in
    let is : put_down i k v ≡ record v { queue = Q } = ap F not_spent in
    is ∙ ap (λ (q : List Entry). record v { queue = q }) (sym (ap (λ (u : LbtsView). u.queue) is))

pub settles_more : (bound i k : ℕ) (released : Bool) (p q : P) → p.client.spent ≡ [] → SettlesOn bound released p q → first_buffer bound q.client.queue ≡ Some (i, k)
    → MaySettleFirst q bound i k → SettlesOn bound true p (place_after view_after (Released i k) q)
settles_more bound i k released p q none s first may =
    let spent_none : q.client.spent ≡ [] = ap (λ (v : LbtsView). v.spent) s.view ∙ none in
    let down = down_queue i k q.client spent_none in
    let few = fewer bound q.client.queue i k first in
    let r : P = place_after view_after (Released i k) q in
    record {
      seat = record { number = s.seat.number; federates = s.seat.federates; buffers = s.seat.buffers; steps = let x = s.seat.steps in omega arith; stops = s.seat.stops };
      registers = s.registers;
      counts = s.counts;
      mail = s.mail;
      stop = s.stop;
      shown = s.shown;
      collects = s.collects;
      buffers = s.buffers;
      view = down ∙ ap (λ (v : LbtsView). record v { queue = r.client.queue }) s.view;
      rest = ap (settled_below bound) may.queue ∙ (settled_again bound q.client.queue ∙ s.rest);
      none = λ e. absurd (cc);
      some = λ _. some_of released s.none s.some few;
    }
  where
    some_of : (b : Bool) → (b ≡ false → q ≡ p) → (b ≡ true → 0 < count_by (is_settleable bound) p.client.queue) → count_by (is_settleable bound) (with_first_settled bound q.client.queue) < count_by (is_settleable bound) q.client.queue
        → 0 < count_by (is_settleable bound) p.client.queue
    some_of true same more few = more refl
    some_of false same more few = subst (λ (x : P). 0 < count_by (is_settleable bound) x.client.queue) (same refl) (omega arith)

-- where none is left to be settled, all were
pub settles_all : (bound : ℕ) (released : Bool) (p q : P) → SettlesOn bound released p q → first_buffer bound q.client.queue ≡ None → HasSettled bound released p q
settles_all bound released p q s none =
    let is : q.client.queue ≡ settled_below bound p.client.queue = sym (none_settled bound q.client.queue none) ∙ s.rest in
    record {
      seat = s.seat;
      registers = s.registers;
      counts = s.counts;
      mail = s.mail;
      stop = s.stop;
      shown = s.shown;
      collects = s.collects;
      buffers = s.buffers;
      view = s.view ∙ ap (λ (l : List Entry). record p.client { queue = l }) is;
      none = s.none;
      some = s.some;
    }
