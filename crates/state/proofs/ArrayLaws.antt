-- Laws of tables in arrays: what is written is read back, a store behind the last row is a row more, the ids in use are the
-- first of their column, and the arrays are as long as the types say.
use Rattle.std.specs.Prelude.{◌≡◌, refl, List, [], ◌∷◌, ◌++◌, map, ℕ, zero, suc, ◌+◌, ◌-◌, ◌*◌, ◌<◌, ◌≤◌, length, get_or, take, drop, set, replicate}
use Rattle.std.proofs.Common.{sym, ap, ap₂, ◌∙◌, append_assoc, append-nil, add-zero, zero-add, suc-add, add-suc, arith, length-append, length-take-le, drop-cons, drop-drop, take_at, drop_at}
use Rattle.std.proofs.Math.Path.{fun_ext}
use Rattle.std.proofs.Math.Nat.{sub-zero}
use Rattle.std.proofs.lemmas.List.{length-map, length-replicate, replicate-append-replicate, set_at}
use Rattle.std.proofs.Math.ListN.{get_or-append, get_or-map}
use Rattle.std.proofs.Math.Seq.{drop-append-add, take-append_seam}
use Rattle.wire.specs.Put.{put_at}
use Rattle.state.specs.declared.types.Config.{Config}
use Rattle.state.specs.Tables.{Route, FaultRow, Tables, route_id, fault_id, args_of, routed, listed, route_at, row_at, tables_of, padded, flat, config_of, fresh_run}
use Rattle.state.specs.Sized.{Sized}
use Rattle.state.specs.Keeps.{Each, Rules, AllZero, ArgsZero, Unused, StatesOk, Keeps}
use Rattle.state.specs.KeepsLaws.{Few}
use Rattle.state.proofs.KeepsLaws.{length_listed}
use Rattle.state.specs.ArrayLaws.{ShortArgs, Short}

-- ---- a list read off places

module _ {A : Type 0} where
  -- the places from k on give these, one after the other
  pub listed_back : (f : ℕ → A) (d : A) (k : ℕ) (xs : List A) → ((i : ℕ) → i < length xs → f (k + i) ≡ get_or xs i d) → listed f k (length xs) ≡ xs
  listed_back f d k [] h = refl
  listed_back f d k (x ∷ xs) h =
      ap₂ (λ (y : A) (ys : List A). y ∷ ys) (ap f (sym (add-zero k)) ∙ h 0 (omega arith))
      (listed_back f d (suc k) xs (λ i l. ap f (suc-add k i ∙ sym (add-suc k i)) ∙ h (suc i) (omega arith)))

  -- and what stands at each of them
  listed_from : (f : ℕ → A) (d : A) (j n k : ℕ) → k < n → get_or (listed f j n) k d ≡ f (j + k)
  listed_from f d j zero k h = absurd (omega arith)
  listed_from f d j (suc n) zero h = ap f (sym (add-zero j))
  listed_from f d j (suc n) (suc k) h = listed_from f d (suc j) n k (omega arith) ∙ ap f (suc-add j k ∙ sym (add-suc j k))

  pub listed_at : (f : ℕ → A) (d : A) (n k : ℕ) → k < n → get_or (listed f 0 n) k d ≡ f k
  listed_at f d n k h = listed_from f d 0 n k h ∙ ap f (zero-add k)

  map_listed : {B : Type 0} (g : A → B) (f : ℕ → A) (k n : ℕ) → map g (listed f k n) ≡ listed (λ i. g (f i)) k n
  map_listed g f k zero = refl
  map_listed {B} g f k (suc n) = ap (λ (l : List B). g (f k) ∷ l) (map_listed g f (suc k) n)

-- so many numbers of a column from a place on
column_from : (xs : List ℕ) (k n : ℕ) → k + n ≤ length xs → listed (λ i. get_or xs i 0) k n ≡ take n (drop k xs)
column_from xs k zero h = refl
column_from xs k (suc n) h =
    rw (drop-cons xs k 0 (omega arith)) (ap (λ (l : List ℕ). get_or xs k 0 ∷ l) (column_from xs (suc k) n (omega arith)))

pub column_is : (xs : List ℕ) (n : ℕ) → n ≤ length xs → listed (λ i. get_or xs i 0) 0 n ≡ take n xs
column_is xs n h = column_from xs 0 n (omega arith)

-- rows of which a column has one number each: those numbers are the first of the column
pub column_of : {A : Type 0} (g : A → ℕ) (f : ℕ → A) (xs : List ℕ) (n : ℕ) → ((i : ℕ) → g (f i) ≡ get_or xs i 0) → n ≤ length xs
    → map g (listed f 0 n) ≡ take n xs
column_of g f xs n e h = map_listed g f 0 n ∙ ap (λ (r : ℕ → ℕ). listed r 0 n) (fun_ext e) ∙ column_is xs n h

-- ---- a list in an array

pub padded_length : (limit : ℕ) (xs : List ℕ) → length xs ≤ limit → length (padded limit xs) ≡ limit
padded_length limit xs h = simp (length-append, length-replicate) (omega arith)

pub padded_take : (limit : ℕ) (xs : List ℕ) (n : ℕ) → length xs ≡ n → take n (padded limit xs) ≡ xs
padded_take limit xs n e = take_at xs (replicate (limit - length xs) 0) n e

pub padded_drop : (limit : ℕ) (xs : List ℕ) (n : ℕ) → length xs ≡ n → drop n (padded limit xs) ≡ replicate (limit - n) 0
padded_drop limit xs n e = drop_at xs (replicate (limit - length xs) 0) n e ∙ ap (λ (k : ℕ). replicate (limit - k) 0) e

-- a store behind the last
pub padded_more : (limit : ℕ) (xs : List ℕ) (n x : ℕ) → length xs ≡ n → n < limit → set (padded limit xs) n x ≡ padded limit (xs ++ x ∷ [])
padded_more limit xs n x e l =
    let k : limit - length xs ≡ suc (limit - length (xs ++ x ∷ [])) = simp length-append (omega arith) in
    rw k (set_at xs 0 (replicate (limit - length (xs ++ x ∷ [])) 0) x n e ∙ sym (append_assoc xs (x ∷ []) (replicate (limit - length (xs ++ x ∷ [])) 0)))

-- what stands at a row's place of its column
module _ {A : Type 0} (f : A → ℕ) (limit : ℕ) (rows : List A) (d : A) where
  pub column_at : (i : ℕ) → i < length rows → f d ≡ 0 → get_or (padded limit (map f rows)) i 0 ≡ f (get_or rows i d)
  column_at i l z =
      get_or-append (map f rows) (replicate (limit - length (map f rows)) 0) 0 i (rw (length-map rows f) l)
      ∙ ap (get_or (map f rows) i) (sym z)
      ∙ get_or-map f rows i d

pub short_args : (rows : List FaultRow) → Short rows → ShortArgs (map args_of rows)
short_args [] s = tt
short_args (r ∷ rows) s = (s.0, short_args rows s.1)

pub flat_length : (rows : List (List ℕ)) → ShortArgs rows → length (flat rows) ≡ length rows * 16
flat_length [] s = refl
flat_length (xs ∷ rows) s = simp (length-append (padded 16 xs), padded_length 16 xs s.0) (omega (arith, flat_length rows s.1))

flat_snoc : (rows : List (List ℕ)) (xs : List ℕ) → flat (rows ++ xs ∷ []) ≡ flat rows ++ padded 16 xs
flat_snoc [] xs = append-nil (padded 16 xs)
flat_snoc (ys ∷ rows) xs =
    ap (λ (l : List ℕ). padded 16 ys ++ l) (flat_snoc rows xs) ∙ sym (append_assoc (padded 16 ys) (flat rows) (padded 16 xs))

-- a row's bytes are read at its place
flat_at : (rows : List (List ℕ)) (z : List ℕ) (i : ℕ) → ShortArgs rows → i < length rows
    → take (length (get_or rows i [])) (drop (i * 16) (flat rows ++ z)) ≡ get_or rows i []
flat_at [] z i s l = absurd (omega arith)
flat_at (xs ∷ rows) z zero s l = simp append_assoc (take-append_seam xs (replicate (16 - length xs) 0 ++ (flat rows ++ z)))
flat_at (xs ∷ rows) z (suc i) s l =
    let k : suc i * 16 ≡ 16 + i * 16 = omega arith in
    let d : drop 16 ((padded 16 xs ++ flat rows) ++ z) ≡ flat rows ++ z =
    rw (append_assoc (padded 16 xs) (flat rows) z) (drop_at (padded 16 xs) (flat rows ++ z) 16 (padded_length 16 xs s.0)) in
    rw (k, ← drop-drop (i * 16) 16 ((padded 16 xs ++ flat rows) ++ z), d) (flat_at rows z i s.1 (omega arith))

zeros_drop : (n m : ℕ) → drop n (replicate m zero) ≡ replicate (m - n) zero
zeros_drop zero m = rw (sub-zero m)
zeros_drop (suc n) zero = let k : zero - suc n ≡ 0 = omega arith in rw k
zeros_drop (suc n) (suc m) = let k : suc m - suc n ≡ m - n = omega arith in zeros_drop n m ∙ rw k

-- a row's bytes put at its place, behind the last
pub args_more : (rows : List (List ℕ)) (xs : List ℕ) (n : ℕ) → ShortArgs rows → length xs ≤ 16 → length rows ≡ n → n < 32
    → put_at (padded 512 (flat rows)) (n * 16) xs ≡ padded 512 (flat (rows ++ xs ∷ []))
args_more rows xs n s short e l =
    let L = flat rows in
    let f : length L ≡ n * 16 = flat_length rows s ∙ ap (λ (k : ℕ). k * 16) e in
    let z = replicate (512 - length L) zero in
    let t : take (n * 16) (L ++ z) ≡ L = take_at L z (n * 16) f in
    let d : drop (n * 16 + length xs) (L ++ z) ≡ replicate (512 - length L - length xs) zero =
    ap (λ (k : ℕ). drop (k + length xs) (L ++ z)) (sym f) ∙ drop-append-add L z (length xs) ∙ zeros_drop (length xs) (512 - length L) in
    let m : length (L ++ padded 16 xs) ≡ n * 16 + 16 = simp (length-append L, padded_length 16 xs short) (omega arith) in
    let k : 512 - length L - length xs ≡ 16 - length xs + (512 - (n * 16 + 16)) = omega arith in
    rw (t, d, flat_snoc rows xs, m, k, ← replicate-append-replicate (16 - length xs) (512 - (n * 16 + 16)) zero) (simp append_assoc)

-- ---- tables are read back

routes_back : (rows : List Route) → listed (route_at (padded 128 (map route_id rows)) (padded 128 (map (λ r. r.dest) rows))) 0 (length rows) ≡ rows
routes_back rows =
    let d : Route = record { id = 0; dest = 0 } in
    listed_back _ d 0 rows
    (λ i l. rw (zero-add i, column_at route_id 128 rows d i l refl, column_at (λ r. r.dest) 128 rows d i l refl))

rows_back : (rows : List FaultRow) → Short rows
    → listed
    (row_at (padded 32 (map fault_id rows)) (padded 32 (map (λ r. r.response) rows)) (padded 32 (map (λ r. r.latching) rows))
    (padded 32 (map (λ r. length r.args) rows)) (padded 512 (flat (map args_of rows))))
    0 (length rows)
    ≡ rows
rows_back rows s =
    let d : FaultRow = record { id = 0; response = 0; latching = 0; args = [] } in
    listed_back _ d 0 rows
    (λ i l. let a : take (length (get_or (map args_of rows) i [])) (drop (i * 16) (padded 512 (flat (map args_of rows)))) ≡ get_or (map args_of rows) i [] =
    flat_at (map args_of rows) _ i (short_args rows s) (rw (length-map rows args_of) l) in
    let g : get_or (map args_of rows) i [] ≡ (get_or rows i d).args = get_or-map args_of rows i d in
    rw (
      zero-add i,
      column_at fault_id 32 rows d i l refl,
      column_at (λ r. r.response) 32 rows d i l refl,
      column_at (λ r. r.latching) 32 rows d i l refl,
      column_at (λ r. length r.args) 32 rows d i l refl,
      rw g at a,
    ))

pub tables_back : (t : Tables) → Short t.rows → tables_of (config_of t) ≡ t
tables_back t s = rw (routes_back t.routes, padded_take 32 t.protected (length t.protected) refl, rows_back t.rows s)

-- ---- the arrays of tables

pub arrays_sized : (t : Tables) → Few t → Sized (config_of t)
arrays_sized t f =
    record {
      routeids_128 = route_column route_id;
      dests_128 = route_column (λ r. r.dest);
      protected_32 = padded_length 32 t.protected f.few_protected;
      faultids_32 = row_column fault_id;
      responses_32 = row_column (λ r. r.response);
      latching_32 = row_column (λ r. r.latching);
      argcounts_32 = row_column (λ r. length r.args);
      args_512 =
          padded_length 512 (flat (map args_of t.rows))
          (rw (flat_length (map args_of t.rows) (short_args t.rows f.few_args), length-map t.rows args_of) (omega (arith, f.few_rows)));
    }
  where
    route_column : (g : Route → ℕ) → length (padded 128 (map g t.routes)) ≡ 128
    route_column g = padded_length 128 (map g t.routes) (rw (length-map t.routes g) f.few_routes)

    row_column : (g : FaultRow → ℕ) → length (padded 32 (map g t.rows)) ≡ 32
    row_column g = padded_length 32 (map g t.rows) (rw (length-map t.rows g) f.few_rows)

-- ---- the tables of arrays: their counts, and their ids are the first of their columns

module _ (c : Config) where
  pub routes_count : length (tables_of c).routes ≡ c.numbers.nroutes
  routes_count = length_listed (route_at c.routeids c.dests) 0 c.numbers.nroutes

  pub protected_count : c.numbers.nprotected ≤ length c.protected → length (tables_of c).protected ≡ c.numbers.nprotected
  protected_count h = length-take-le c.numbers.nprotected c.protected h

  pub rows_count : length (tables_of c).rows ≡ c.numbers.nrows
  rows_count = length_listed (row_at c.faultids c.responses c.latching c.argcounts c.args) 0 c.numbers.nrows

  pub routed_is : c.numbers.nroutes ≤ length c.routeids → routed (tables_of c) ≡ take c.numbers.nroutes c.routeids
  routed_is h = column_of route_id (route_at c.routeids c.dests) c.routeids c.numbers.nroutes (λ i. refl) h

  pub fault_ids_are : c.numbers.nrows ≤ length c.faultids → map fault_id (tables_of c).rows ≡ take c.numbers.nrows c.faultids
  fault_ids_are h =
      column_of fault_id (row_at c.faultids c.responses c.latching c.argcounts c.args) c.faultids c.numbers.nrows (λ i. refl) h

-- ---- tables that keep their rules keep them in arrays, with a fresh run

pub each_map : {A : Type 0} {P Q : A → Type 0} → ((x : A) → P x → Q x) → (xs : List A) → Each P xs → Each Q xs
each_map f [] h = tt
each_map f (x ∷ xs) h = (f x h.0, each_map f xs h.1)

pub rules_few : {t : Tables} → Rules t → Few t
rules_few {t} k =
    record {
      few_routes = k.few_routes;
      few_protected = k.few_protected;
      few_rows = k.few_rows;
      few_args = each_map (λ r h. h.few_args) t.rows k.rows_ok;
    }

zeros_are : (n : ℕ) → AllZero (replicate n 0)
zeros_are zero = tt
zeros_are (suc n) = (refl, zeros_are n)

behind_zero : (limit : ℕ) (xs : List ℕ) (n : ℕ) → length xs ≡ n → AllZero (drop n (padded limit xs))
behind_zero limit xs n e = rw (padded_drop limit xs n e) (zeros_are (limit - n))

args_behind : (rows : List FaultRow) (z : List ℕ) → Short rows → AllZero z → ArgsZero (map (λ r. length r.args) rows) (flat (map args_of rows) ++ z)
args_behind [] z s k = k
args_behind (r ∷ rows) z s k =
    let p = padded 16 r.args in
    let f = flat (map args_of rows) in
    let n : length p ≡ 16 = padded_length 16 r.args s.0 in
    rw (append_assoc p f z, take_at p (f ++ z) 16 n, drop_at p (f ++ z) 16 n)
    (s.0, behind_zero 16 r.args (length r.args) refl, args_behind rows z s.1 k)

starts_ok : (rows : List FaultRow) (starts : List ℕ) (n : ℕ) → length starts ≡ length rows → Each (λ s. s ≤ 1) starts → StatesOk rows (starts ++ replicate n 0)
starts_ok [] [] n e h = zeros_are n
starts_ok [] (s ∷ starts) n e h = absurd (omega arith)
starts_ok (r ∷ rows) [] n e h = absurd (omega arith)
starts_ok (r ∷ rows) (s ∷ starts) n e h =
    (record { known = omega (arith, h.0); may_latch = λ p q. omega (arith, h.0) }, starts_ok rows starts n (omega arith) h.1)

unused_zero_lem : (t : Tables) → Few t → Unused (config_of t)
unused_zero_lem t f =
    record {
      routeids_zero = route_column route_id;
      dests_zero = route_column (λ r. r.dest);
      protected_zero = behind_zero 32 t.protected (length t.protected) refl;
      faultids_zero = row_column fault_id;
      responses_zero = row_column (λ r. r.response);
      latching_zero = row_column (λ r. r.latching);
      argcounts_zero = row_column counts;
      args_are_zero =
          rw (padded_take 32 (map counts t.rows) (length t.rows) (length-map t.rows counts))
          (args_behind t.rows (replicate (512 - length (flat (map args_of t.rows))) 0) f.few_args (zeros_are (512 - length (flat (map args_of t.rows)))));
    }
  where
    counts : FaultRow → ℕ
    counts r = length r.args

    route_column : (g : Route → ℕ) → AllZero (drop (length t.routes) (padded 128 (map g t.routes)))
    route_column g = behind_zero 128 (map g t.routes) (length t.routes) (length-map t.routes g)

    row_column : (g : FaultRow → ℕ) → AllZero (drop (length t.rows) (padded 32 (map g t.rows)))
    row_column g = behind_zero 32 (map g t.rows) (length t.rows) (length-map t.rows g)

pub arrays_keep : (t : Tables) (starts : List ℕ) → Rules t → length starts ≡ length t.rows → Each (λ s. s ≤ 1) starts
    → Keeps (config_of t) (fresh_run starts)
arrays_keep t starts k e h =
    let f = rules_few k in
    let back = tables_back t f.few_args in
    record {
      within = k.few_protected;
      rules = rw back k;
      unused = unused_zero_lem t f;
      run_ok = rw back (record { arm_is_ok = refl; states_are_ok = starts_ok t.rows starts (32 - length starts) e h });
    }
