-- What a world tells of the place of the seat that makes a step in it.
use Rattle.std.proofs.Common.{◌≡◌, ℕ, ◌+◌, ◌*◌, ◌<◌, ◌≤◌, List, length, sym, ◌∙◌, subst}
use Rattle.std.specs.Prelude.{slice_index}
use Rattle.std.specs.Int.{bit_at}
use Rattle.kit_ground.specs.declared.address.Address.TheVariants.{Mail, Count}
use Rattle.kit_ground.specs.declared.place.Place.{Place}
use Rattle.kit_ground.specs.Memory.{Memory}
use Rattle.kit_ground.specs.Rules.{OwnFits, Rule, World}
use Rattle.kit_ground.specs.Laws.{WorldsTell}
use Rattle.kit_ground.proofs.Lists.{at_inside}
use Rattle.kit_ground.proofs.PlaceFacts.{buffers_wide, content_is, free_uncounted, held_counted, holds_wide, mailed_within}

module _ {V : Type 0} (rule : Rule V) (p : Place V) (m : Memory) (places : List (Place V)) (w : World rule p m places) where
  pub fits_here : OwnFits m (length places) p.own.buffers p.own.number p.own
  fits_here = w.floor.each p.own.number p w.here

  pub few_federates : p.own.federates ≤ 16
  few_federates = subst (λ (n : ℕ). n ≤ 16) (sym fits_here.federates) w.floor.few

  pub small_pools : p.own.buffers ≤ 1024
  small_pools = w.floor.small

  pub buffers_long : length p.own.stock.buffers ≡ p.own.buffers
  buffers_long = buffers_wide p.own.buffers m places w.floor p.own.number p w.here

  pub holds_long : length p.own.stock.holds ≡ p.own.federates
  holds_long = holds_wide p.own.buffers m places w.floor p.own.number p w.here ∙ sym fits_here.federates

  pub there : (i : ℕ) → i < p.own.federates → i < length places
  there i li = subst (λ (n : ℕ). i < n) fits_here.federates li

  -- mail is of buffers that there are
  pub mail_is_of_buffers : (i word c : ℕ) → i < p.own.federates → bit_at (m (Mail p.own.number i word)) c ≡ 1 → (c < 64) × (64 * word + c < p.own.buffers)
  mail_is_of_buffers i word c li = mailed_within p.own.buffers m places w.floor p.own.number p w.here i word c (there i li)

  -- a buffer that the seat holds counts it
  pub held_is_counted : (i k : ℕ) → i < p.own.federates → k < p.own.buffers → bit_at (slice_index p.own.stock.holds i) k ≡ 1 → 0 < m (Count i k)
  held_is_counted i k li lk = held_counted p.own.buffers m places w.floor p.own.number p w.here i k (there i li) lk

-- all of it, as the law says it
pub told_by_world : {V : Type 0} (rule : Rule V) → WorldsTell rule
told_by_world rule p m places w =
    let fits = fits_here rule p m places w in record {
      fits = subst (λ (n : ℕ). OwnFits m n p.own.buffers p.own.number p.own) (sym fits.federates) fits;
      number = subst (λ (n : ℕ). p.own.number < n) (sym fits.federates) (at_inside places p.own.number p w.here);
      few = few_federates rule p m places w;
      small = small_pools rule p m places w;
      buffers = buffers_long rule p m places w;
      holds = holds_long rule p m places w;
      mail = mail_is_of_buffers rule p m places w;
      counted = held_is_counted rule p m places w;
      free = free_uncounted p.own.buffers m places w.floor p.own.number p w.here;
      content = content_is p.own.buffers m places w.floor p.own.number p w.here;
    }
