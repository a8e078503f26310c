-- Agreement at the opening and at the end.
use Rattle.std.proofs.Common.{◌≡◌, ℕ, Some, None, refl, subst}
use Rattle.kit_ground.specs.declared.place.Place.{Place}
use Rattle.kit_lbts.specs.declared.lbts.Opening.{Opening}
use Rattle.kit_lbts.specs.declared.view.LbtsView.{LbtsView}
use Rattle.kit_lbts.specs.Progress.{lbts_first}
use Rattle.kit_lbts.specs.Agreement.{Agrees}
use Rattle.kit_lbts.specs.AgreementLaws.{OpeningsAgree, ToldWithAgreement}
use Rattle.kit_lbts.proofs.GrantAgreement.{without_agreement}
use Rattle.kit_lbts.proofs.Openings.{is_seat, openings_hold}

abbrev P : Type 0
P = Place LbtsView

never : {X : Type 0} {x : X} → None ≡ Some x → ⊥
never {X} {x} e = cc

first_agrees : (o : Opening) (j : ℕ) → Agrees j (lbts_first o j)
first_agrees o j = record { new = λ e. refl; whole = refl; front = refl; seat = λ r e. absurd (never e) }

pub openings_agree : OpeningsAgree
openings_agree o sound = record {
  floor = openings_hold o sound;
  agree = λ j p at. subst (λ (x : P). Agrees j x.client) (is_seat o sound j p at) (first_agrees o j);
}

pub told_with_agreement : ToldWithAgreement
told_with_agreement p a word t = (t.0, t.1, without_agreement p t.0 t.1 t.2, t.3)
