-- Demand 3: for any good configuration and any list of packets, ticks and faults, the running path agrees on every answer with
-- the plain reading of the list.
use Rattle.std.specs.Prelude.{◌≡◌, refl, Bool, true, false, cond, not, ◌&&◌, ◌||◌, ◌⊎◌, List, [], ◌∷◌, map, ℕ, ◌<◌, eqb, ltb, length}
use Rattle.std.proofs.Common.{sym, ◌∙◌, inl, inr, zero-add, eq-eqb, ne_eqb, lt-ltb, eqb-true, ltb-true}
use Rattle.std.proofs.Math.Path.{ap}
use Rattle.std.proofs.Math.Bool.{or-true}
use Rattle.std.proofs.lemmas.Bool.{false≢true}
use Rattle.std.proofs.Math.Option.{Option, none, some}
use Rattle.std.proofs.lemmas.List.{length-map}
use Rattle.std.proofs.Math.ListN.{get_or-map}
use Rattle.packet_rules.specs.Layout.{command_id}
use Rattle.packet_rules.specs.Judge.{arguments_of}
use Rattle.state.specs.declared.types.Run.{Run}
use Rattle.state.specs.Tables.{routed, listed, tables_of}
use Rattle.state.proofs.ArrayLaws.{listed_back}
use Rattle.state.specs.Rules.{own, member}
use Rattle.state.specs.Keeps.{Each, ProtectedOk}
use Rattle.state.proofs.Settings.{both}
use Rattle.image_rules.specs.Records.{Record, records_of}
use Rattle.image_load.specs.Image.{of_kind, starts_of_records, load_of}
use Rattle.image_load.proofs.LoadTheorems.{loads_good, loaded_tables, loaded_run}
use Rattle.history.specs.Plain.{Event, packet, wanted, names_fault, fault_named, selects, nearest, ticks_since, is_arm, timeout, lasts, armed, accepted, packet_answer, packet_reply, Reply, Row, row_of, no_row, any_row, tables, rows, row_at, meant_by, state_of, reply, replies, latest_first}
use Rattle.history.specs.Path.{run, after}
use Rattle.history.specs.Known.{known, known_counts}
use Rattle.history.proofs.RowsLaws.{map_then, row_named}
use Rattle.history.specs.KnownLaws.{Sound}
use Rattle.history.proofs.KnownLaws.{step_known}
use Rattle.history.specs.Agree.{LetPast, armed_by}

-- ---- from any history on

module _ (image : List Record) (s : Sound image) where
  pub run_replies : (h es : List Event) → run (tables image) (known image h) es ≡ replies image h es
  run_replies h [] = refl
  run_replies h (e ∷ es) =
      let k = step_known image s h e in
      rw (k.0, k.1) (ap (λ (l : List Reply). reply image h e ∷ l) (run_replies (e ∷ h) es))

  pub run_leaves : (h es : List Event) → after (tables image) (known image h) es ≡ known image (latest_first h es)
  run_leaves h [] = refl
  run_leaves h (e ∷ es) = rw (step_known image s h e).1 (run_leaves (e ∷ h) es)

-- ---- a good image is sound, and its load is the run that no event has touched

arm_free : (base : ℕ) (routed ids : List ℕ) → Each (ProtectedOk base routed) ids → member base ids ≡ false
arm_free base routed [] h = refl
arm_free base routed (x ∷ ids) h = simp (ne_eqb base x (λ e. h.0.not_arm (sym e)), arm_free base routed ids h.1)

module _ (image : List ℕ) (z : (load_of image).answer ≡ 0) where
  abbrev records : List Record
  records = records_of image

  pub sound : Sound records
  sound =
      record { free = arm_free (tables records).settings.base _ (tables records).protected (loads_good image z).rules.protected_is_ok }

  abbrev start : Row → ℕ
  start r = r.start

  starts_are : listed (state_of records []) 0 (length (rows records)) ≡ starts_of_records records
  unfolding starts_of_records
  starts_are =
      ap (listed (state_of records []) 0) (sym (length-map (rows records) start))
      ∙ listed_back (state_of records []) 0 0 (map start (rows records)) (λ i l. rw (zero-add i) (sym (get_or-map start (rows records) i no_row)))
      ∙ map_then start row_of (of_kind 4 records)

  pub fresh : (load_of image).run ≡ known records []
  fresh = loaded_run image z ∙ rw starts_are

  -- a fault id means the one row that has it
  pub meant_row : (f k : ℕ) → k < length (rows records) → (row_at records k).row.id ≡ f → meant_by records f ≡ some k
  meant_row = row_named records (loads_good image z).rules.rows_rise

  -- the running path and the plain reading agree on every answer and every output byte
  pub agree : (es : List Event) → run (tables_of (load_of image).config) (load_of image).run es ≡ replies records [] es
  agree es = rw (loaded_tables image z, fresh) (run_replies records sound [] es)

  -- each counter is the number of its steps since the last completed reset, or since loading, modulo 65,536
  pub counters : (es : List Event) → (after (tables_of (load_of image).config) (load_of image).run es).standing.counts ≡ known_counts records (latest_first [] es)
  counters es = rw (loaded_tables image z, fresh) (ap (λ (r : Run). r.standing.counts) (run_leaves records sound [] es))

module _ (image : List Record) (h : List Event) where
  pub past_armed : LetPast image h → armed image h ≡ true
  past_armed (armed_by p n a (inl z)) = rw n (simp (a, eq-eqb _ _ z))
  past_armed (armed_by p n a (inr l)) = rw n (simp (a, lt-ltb _ _ l) (or-true (eqb (timeout image p) 0)))

  pub armed_past : armed image h ≡ true → LetPast image h
  armed_past e = go (nearest image h) refl e
    where
      go : (o : Option (List ℕ)) → nearest image h ≡ o → lasts image o (ticks_since image h) ≡ true → LetPast image h
      go none n q = absurd (false≢true q)
      go (some p) n q =
          let b = both (is_arm image p) (eqb (timeout image p) 0 || ltb (ticks_since image h) (timeout image p)) q in
          armed_by p n b.0 (either (eqb (timeout image p) 0) refl b.1)
        where
          either : (z : Bool) → eqb (timeout image p) 0 ≡ z → (eqb (timeout image p) 0 || ltb (ticks_since image h) (timeout image p)) ≡ true → (timeout image p ≡ 0) ⊎ (ticks_since image h < timeout image p)
          either true e q = inl (eqb-true _ _ e)
          either false e q = inr (ltb-true _ _ (simp e at q))

  module _ (p : List ℕ) (a : accepted image p ≡ true) (m : member (command_id p) (tables image).protected ≡ true) where
    answer_of : (n : ℕ) → (packet_reply image p n).answer ≡ n
    answer_of n = go (eqb n 10) refl
      where
        go : (b : Bool) → eqb n 10 ≡ b → (packet_reply image p n).answer ≡ n
        go true e = simp e (sym (eqb-true n 10 e))
        go false e = simp e

    -- past the protection no answer is 30
    no_30 : (o x y w r : Bool) → eqb (cond o (cond x (cond y 32 (cond w 11 12)) 31) (cond r 10 33)) 30 ≡ false
    no_30 true true true w r = refl
    no_30 true true false true r = refl
    no_30 true true false false r = refl
    no_30 true false y w r = refl
    no_30 false x y w true = refl
    no_30 false x y w false = refl

    pub let_past : LetPast image h → (reply image h (packet p)).answer ≡ 30 → ⊥
    let_past l e =
        let n : packet_answer image h p ≡ 30 = sym (answer_of (packet_answer image h p)) ∙ (rw a at e) in
        let k = selects image p in
        let args = arguments_of p in
        let unknown = names_fault k && not (any_row (meant_by image (fault_named args))) in
        let z = no_30 (own (tables image).settings.base (command_id p)) (eqb (length args) (wanted k)) unknown (eqb k 0) (member (command_id p) (routed (tables image))) in
        false≢true (sym z ∙ eq-eqb _ 30 (simp (m, past_armed l) at n))

    pub not_past : (LetPast image h → ⊥) → (reply image h (packet p)).answer ≡ 30
    not_past l = go (armed image h) refl
      where
        go : (b : Bool) → armed image h ≡ b → (reply image h (packet p)).answer ≡ 30
        go true e = absurd (l (armed_past e))
        go false e = simp (a, m, e)
