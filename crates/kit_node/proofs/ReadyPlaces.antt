-- A place where the start's rules have run, by whether they were still to run.
use Rattle.std.proofs.Common.{◌≡◌, Bool, true, false, cond, refl}
use Rattle.kit_ground.specs.declared.place.Place.{Place}
use Rattle.kit_lbts.specs.declared.view.LbtsView.{LbtsView}
use Rattle.kit_lbts.specs.LedgerLaws.{ready_place}
use Rattle.kit_lbts.specs.Progress.{view_after_start}
use Rattle.kit_lbts.specs.Views.{is_new}

abbrev P : Type 0
P = Place LbtsView

abbrev pub ready_by : P → Bool → P
ready_by p b = record p { client = cond b (view_after_start p.own.number p.client) p.client }

-- the start leaves the journal and the posts
pub ready_journal : (p : P) → (ready_place p).client.journal ≡ p.client.journal
ready_journal p = by (is_new p.client.request)
  where
    by : (b : Bool) → (ready_by p b).client.journal ≡ p.client.journal
    by true = refl
    by false = refl

pub ready_posted : (p : P) → (ready_place p).client.posted ≡ p.client.posted
ready_posted p = by (is_new p.client.request)
  where
    by : (b : Bool) → (ready_by p b).client.posted ≡ p.client.posted
    by true = refl
    by false = refl
