-- What the entry of each kind says, in the paper's words and both ways: its number, its limit, its size and its other rules.
use Rattle.std.specs.Prelude.{◌≡◌, refl, true, false, List, ℕ, ◌+◌, ◌≤◌, leb, length, get_or}
use Rattle.std.proofs.Common.{sym, ◌∙◌, arith}
use Rattle.std.proofs.lemmas.Bool.{false≢true}
use Rattle.std.proofs.Math.ListN.{length-take}
use borrow.Author.Tests.{le-leb, leb-true, eqb-true, eq-eqb}
use Rattle.state.specs.Settings.{settings_ok, SettingsOk}
use Rattle.state.proofs.Settings.{settings_kept, settings_keeps}
use Rattle.state.specs.Tables.{Tables, routed}
use Rattle.state.specs.Rules.{start_ok}
use Rattle.state.specs.Keeps.{RouteOk, ProtectedOk, RowOk}
use Rattle.state.proofs.Settings.{both}
use Rattle.state.proofs.KeepsLaws.{route_kept, route_keeps, protected_kept_lem, protected_keeps, row_kept, row_keeps}
use Rattle.image_rules.specs.Written.{ground_in, fault_in, base_in, settings_with, route_in, protected_in, row_in, start_in}
use Rattle.image_rules.specs.Kinds.{Kind, one, rows, is_single, sized, limit, rule, basics, route, protected, row_sized, fault_row, last_of_kinds, kind_of}

-- at most 128 routes, 32 protected ids, 32 fault rows; kinds are 1 to 4
pub limits : (limit route ≡ 128) × (limit protected ≡ 32) × (limit fault_row ≡ 32) × (last_of_kinds ≡ 4)
limits = (refl, refl, refl, refl)

-- 1 basics, 2 route, 3 protected, 4 fault row; of the first there is at most one, with 6 bytes, the others are rows with rising ids
pub numbers : (kind_of 1 ≡ basics) × (kind_of 2 ≡ route) × (kind_of 3 ≡ protected) × (kind_of 4 ≡ fault_row)
numbers = (refl, refl, refl, refl)

pub singles : (basics ≡ one 6) × (is_single route ≡ false) × (is_single protected ≡ false) × (is_single fault_row ≡ false)
singles = (refl, refl, refl, refl)

-- ---- single kinds

-- their limit is one, and their rule that of the settings
pub single_limit : (k : Kind) → is_single k ≡ true → limit k ≡ 1
single_limit (one size) e = refl
single_limit (rows most fits keeps) e = absurd (false≢true e)

pub single_rule : (k : Kind) (kind : ℕ) (t : Tables) (b : List ℕ) → is_single k ≡ true → rule k kind t b ≡ settings_ok (settings_with kind b t.settings)
single_rule (one size) kind t b e = refl
single_rule (rows most fits keeps) kind t b e = absurd (false≢true e)

module _ (k : Kind) (kind : ℕ) (t : Tables) (b : List ℕ) (single : is_single k ≡ true) where
  pub single_says : rule k kind t b ≡ true → SettingsOk (settings_with kind b t.settings)
  single_says e = settings_keeps (sym (single_rule k kind t b single) ∙ e)

  pub says_single : SettingsOk (settings_with kind b t.settings) → rule k kind t b ≡ true
  says_single ok = single_rule k kind t b single ∙ settings_kept ok

-- the size of a body
pub one_sized : (size : ℕ) (b : List ℕ) → sized (one size) b ≡ true → length b ≡ size
one_sized size b e = eqb-true _ _ e

pub sized_one : (size : ℕ) (b : List ℕ) → length b ≡ size → sized (one size) b ≡ true
sized_one size b e = eq-eqb _ _ e

pub sized_as : (K size : ℕ) {kind : ℕ} (b : List ℕ) → kind ≡ K → kind_of K ≡ one size → sized (kind_of kind) b ≡ true → length b ≡ size
sized_as K size b e o f = one_sized size b (rw (e, o) at f)

module _ (t : Tables) (b : List ℕ) where
  -- ---- 1 basics, where `SettingsOk` speaks of the numbers of the body

  pub basics_says : rule basics 1 t b ≡ true → (ground_in b ≡ fault_in b → ⊥) × (base_in b ≤ 65528)
  basics_says e = let k = single_says basics 1 t b refl e in (k.sources_differ, k.base_fits)

  pub says_basics : (ground_in b ≡ fault_in b → ⊥) → base_in b ≤ 65528 → rule basics 1 t b ≡ true
  says_basics differ fits = says_single basics 1 t b refl (record { sources_differ = differ; base_fits = fits })

  -- ---- 2 route

  pub route_3 : sized route b ≡ true → length b ≡ 3
  route_3 e = eqb-true _ _ e

  pub three_route : length b ≡ 3 → sized route b ≡ true
  three_route e = eq-eqb _ _ e

  pub route_says : rule route 2 t b ≡ true → RouteOk t.settings.base (route_in b)
  route_says e = route_keeps e

  pub says_route : RouteOk t.settings.base (route_in b) → rule route 2 t b ≡ true
  says_route k = route_kept k

  -- ---- 3 protected

  pub protected_2 : sized protected b ≡ true → length b ≡ 2
  protected_2 e = eqb-true _ _ e

  pub two_protected : length b ≡ 2 → sized protected b ≡ true
  two_protected e = eq-eqb _ _ e

  pub protected_says : rule protected 3 t b ≡ true → ProtectedOk t.settings.base (routed t) (protected_in b)
  protected_says e = protected_keeps e

  pub says_protected : ProtectedOk t.settings.base (routed t) (protected_in b) → rule protected 3 t b ≡ true
  says_protected k = protected_kept_lem k

  -- ---- 4 fault row

  pub row_7 : sized fault_row b ≡ true → (length b ≡ 7 + get_or b 6 0) × (get_or b 6 0 ≤ 16)
  unfolding row_sized
  row_7 e = let p = both (leb (get_or b 6 0) 16) _ e in (eqb-true _ _ p.1, leb-true _ _ p.0)

  pub seven_row : length b ≡ 7 + get_or b 6 0 → get_or b 6 0 ≤ 16 → sized fault_row b ≡ true
  unfolding row_sized
  seven_row e l = simp (le-leb _ _ l, eq-eqb _ _ e)

  pub row_says : sized fault_row b ≡ true → rule fault_row 4 t b ≡ true → RowOk (routed t) (row_in b) × (start_in b ≤ 1)
  unfolding start_ok
  row_says f e =
      let p = both (start_ok (start_in b)) _ e in
      let few = row_7 f in
      (row_keeps p.1 (simp length-take (omega arith)), leb-true _ _ p.0)

  pub says_row : RowOk (routed t) (row_in b) → start_in b ≤ 1 → rule fault_row 4 t b ≡ true
  unfolding start_ok
  says_row k l = simp (le-leb _ _ l, row_kept k)
