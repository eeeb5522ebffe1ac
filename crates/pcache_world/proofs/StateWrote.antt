-- The store after more bytes of a write.
use Rattle.pcache_store.specs.Store.{wrote_on}
use Rattle.pcache_history.specs.Events.{is_told}
use Rattle.pcache_history.proofs.Steps.{complete-wrote}
use Rattle.pcache_world.proofs.Words.{◌≡◌, ℕ, Bool, true, if◌then◌else◌, Some, List, ◌∷◌, ◌++◌, refl, sym, subst, ◌∙◌, get, Meta, Store, wrote, Event, Wrote, begin_of, body_of, in_flight, record_of, IsState, IsTidy, same-number}
use Rattle.pcache_world.proofs.StateWrites.{get-set, changed-at, kept_as, recorded, begun-flying, record-flying}

module _ (es : List Event) (n : ℕ → ℕ) (s : Store) (w : ℕ) (bytes : List ℕ) (eof : Bool) (tidy : IsTidy es) (fly : in_flight w es ≡ true) (st : IsState es n s) where
  -- the record of the write has the bytes, and whether they are the last
  wrote-writes : (b : ℕ × Meta) → begin_of w es ≡ Some b → (q : ℕ) → get (wrote_on s.writes w bytes eof (Some (kept_as true (n w) (body_of w es) (is_told w es) b))) q ≡ record_of q (n q) (Wrote w bytes eof ∷ es)
  wrote-writes b is =
      let t = same-number w in
      changed-at s.writes _ es (Wrote w bytes eof ∷ es) n n w (Some (kept_as true (n w) (body_of w es ++ bytes) eof b)) (get-set s.writes w (kept_as true (n w) (body_of w es ++ bytes) eof b)) st.writes
      (λ i. recorded (sym fly i) (n w) (if sym t i then body_of w es ++ bytes else body_of w es) (if sym t i then eof else is_told w es) (sym is i))
      (λ q f. rw f refl)

  pub state-wrote : IsState (Wrote w bytes eof ∷ es) n (wrote s w bytes eof)
  state-wrote =
      let f = begun-flying w es fly in
      subst (λ o. IsState (Wrote w bytes eof ∷ es) n (record s { writes = wrote_on s.writes w bytes eof o })) (sym (record-flying es n s st w f.0 fly f.1)) (record {
        next = st.next;
        writes = wrote-writes f.0 f.1;
        untouched = st.untouched;
        bodies = λ k. st.bodies k ∙ sym (complete-wrote es w bytes eof tidy fly k);
        filled = st.filled;
        known = st.known;
        newest = st.newest;
      })
