-- The loop over the calls: the records written so far, and those left to write.
use Rattle.std.proofs.Common.{◌≡◌, ◌≢◌, ℕ, zero, suc, ◌+◌, ◌<◌, ◌≤◌, ◌++◌, ◌⊎◌, inl, inr, Bool}
use Rattle.std.proofs.Common.{true, false, cond, List, [], ◌∷◌, Option, Some, None}
use Rattle.std.proofs.Common.{length, map, take, drop, set, refl, sym, ap, ◌∙◌}
use Rattle.std.proofs.Common.{append_assoc, arith, add-one, length-set}
use Rattle.std.specs.Prelude.{◌&&◌, if◌then◌else◌, option_map}
use Rattle.std.proofs.lemmas.List.{map-append, take_more_set, take_all}
use Rattle.std.proofs.lemmas.List.Sums.{sum_by-cons}
use Rattle.std.proofs.lemmas.Bool.{cases_lt}
use Rattle.rustc_parse_format.specs.Characters.{Text, is_nil}
use Rattle.rustc_parse_format.specs.Types.{Piece, Lit, NextArgument, Spec}
use Rattle.rustc_parse_format.specs.World.{Place, piece_in}
use Rattle.rustc_parse_format.specs.Call.{Call, call}
use Rattle.rustc_parse_format.specs.State.{State, next_call, state_after, after_all}
use Rattle.rustc_parse_format.proofs.Walking.Progress.{call-lt}
use Rattle.rustc_parse_format.proofs.Lines.StateLines.{at_end, closed_in-none, end_faults}
use Rattle.flat_reading.specs.declared.specification.SpecBuffer.{SpecBuffer}
use Rattle.flat_reading.specs.declared.records.Step.{Step}
use Rattle.flat_reading.specs.declared.records.Peek.{Peek}
use Rattle.flat_reading.specs.declared.records.Spec.{Spec as SpecRecord}
use Rattle.rustc_parse_format.specs.Lines.{closed_in, with_last}
use Rattle.flat_reading.specs.Meaning.{maybe_place, piece_meant, spec_at}
use Rattle.flat_reading.specs.Events.{Event, add_finders, event, finders_from, fronts_in}
use Rattle.flat_reading.specs.Events.{given_piece}
use Rattle.flat_reading.specs.Events.{position}
use Rattle.flat_reading.specs.Events.{lookahead, lookaheads, peek_meant}
use Rattle.flat_reading.specs.Events.{specs_in, is_default, states, states_for}
use Rattle.flat_reading.specs.Events.{step_meant}
use Rattle.flat_reading.specs.ErrorRecords.{FinderList}
use Rattle.flat_reading.specs.Progress.{Adds, AllFew, IsAdded, IsSeen, IsUpTo}
use Rattle.flat_reading.proofs.Finding.{length-add_finders, length-after}
use Rattle.flat_reading.proofs.Lists.{kept_after, still_after}
use Rattle.flat_reading.proofs.Specs.{spec_at-front}

cut_at_end : (t : Text) (es : List State) → length t ≤ 0 → cond (is_nil t) [] es ≡ []
cut_at_end [] es h = refl
cut_at_end (c ∷ t) es h = absurd (omega arith)

same_later : (t : Text) (xs ys : List State) → (t ≢ [] → xs ≡ ys)
    → ◌≡◌ {A = List State} (cond (is_nil t) [] xs) (cond (is_nil t) [] ys)
same_later [] xs ys h = refl
same_later (c ∷ t) xs ys h = h (λ k. cc)

goes_past : (t : Text) (es : List State) → t ≢ [] → cond (is_nil t) [] es ≡ es
goes_past [] es h = absurd (h refl)
goes_past (c ∷ t) es h = refl

pub goes_on : (s : State) → s.rest ≢ [] → length (state_after s (next_call s)).rest < length s.rest
goes_on s h = call-lt s.mode s.next s.rest h

enough : (n m : ℕ) (s : State) → length s.rest ≤ n → length s.rest ≤ m
    → states_for n s ≡ states_for m s
enough zero zero s h k = refl
enough zero (suc m) s h k = ap (λ es. s ∷ es) (sym (cut_at_end s.rest _ h))
enough (suc n) zero s h k = ap (λ es. s ∷ es) (cut_at_end s.rest _ k)
enough (suc n) (suc m) s h k =
    ap (λ es. s ∷ es) (same_later s.rest _ _ (λ more.
    let l = goes_on s more in
    enough n m (state_after s (next_call s)) (omega arith) (omega arith)))

pub states-end : (s : State) → s.rest ≡ [] → states s ≡ s ∷ []
unfolding states
states-end s e = rw e refl

more_for : (n : ℕ) (s : State) → length s.rest ≡ n → s.rest ≢ []
    → states_for n s ≡ s ∷ states (state_after s (next_call s))
unfolding states
more_for zero s e h = let l = goes_on s h in absurd (omega arith)
more_for (suc n) s e h =
    let l = goes_on s h in
    ap (λ es. s ∷ es)
    (goes_past s.rest _ h ∙ enough n (length (state_after s (next_call s)).rest)
    (state_after s (next_call s))
    (omega arith) (omega arith))

pub states-more : (s new : State) → s.rest ≢ [] → new ≡ state_after s (next_call s)
    → states s ≡ s ∷ states new
unfolding states
states-more s new h e = rw e (more_for (length s.rest) s refl h)

more_few : (k m : ℕ) (rs : List Step) → k ≤ m → AllFew k rs → AllFew m rs
more_few k m [] h few = tt
more_few k m (r ∷ rs) h few = (omega (arith, few.0), more_few k m rs h few.1)

few_more : (k : ℕ) (rs : List Step) (r : Step) → AllFew k rs → r.spec ≤ k → AllFew k (rs ++ r ∷ [])
few_more k [] r few h = (h, tt)
few_more k (q ∷ rs) r few h = (few.0, few_more k rs r few.1 h)

pub same_meant : (input : List ℕ) (xs ys : List SpecRecord) (k : ℕ) (rs : List Step)
    → take k xs ≡ take k ys → AllFew k rs → map (step_meant input xs) rs
    ≡ map (step_meant input ys) rs
same_meant input xs ys k [] e few = refl
same_meant input xs ys k (r ∷ rs) e few =
    let one : step_meant input xs r ≡ step_meant input ys r =
    rw (spec_at-front input xs ys k r.spec few.0 e) refl in
    let others = same_meant input xs ys k rs e few.1 in cc

specs_in-le : {A : Type 0} (o : Option (Piece A)) → specs_in o ≤ 1
specs_in-le None = omega arith
specs_in-le (Some (Lit t)) = omega arith
specs_in-le (Some (NextArgument a)) = by_test (is_default a.format)
  where
    by_test : (b : Bool) → cond b 0 1 ≤ 1
    by_test true = omega arith
    by_test false = omega arith

-- a step was put where there is room
abbrev IsPut : List Step → ℕ → Step → List Step → Type 0
IsPut old count r new = (count < length old → new ≡ set old count r)
    × (length old ≤ count → new ≡ old)

put_few : (k j : ℕ) (old new : List Step) (count : ℕ) (r : Step) → IsPut old count r new → k ≤ j
    → r.spec ≤ j → AllFew k (take count old)
    → AllFew j (take (count + 1) new)
put_few k j old new count r put h few all = by_room (cases_lt count (length old))
  where
    by_room : (count < length old) ⊎ (length old ≤ count) → AllFew j (take (count + 1) new)
    by_room (inl room) = rw (put.0 room, take_more_set old count r room)
        (few_more j (take count old) r (more_few k j (take count old) h all) few)
    by_room (inr full) = rw (put.1 full, take_all (count + 1) old (omega arith))
        (more_few k j old h (rw (take_all count old full) at all))

put_length : (count : ℕ) (old new : List Step) (r : Step) → IsPut old count r new
    → length new ≡ length old
put_length count old new r put = by_room (cases_lt count (length old))
  where
    by_room : (count < length old) ⊎ (length old ≤ count) → length new ≡ length old
    by_room (inl room) = ap length (put.0 room) ∙ length-set old count r
    by_room (inr full) = ap length (put.1 full)

-- what comes next was written where there is room
see_more : (s0 s : State) (todo : List State) (count : ℕ) (peeks peeks' : List Peek)
    → IsSeen s count peeks peeks'
    → (count ≤ length peeks
    → map peek_meant (take count peeks) ++ map lookahead (s ∷ todo) ≡ lookaheads s0)
    → count + 1 ≤ length peeks'
    → map peek_meant (take (count + 1) peeks') ++ map lookahead todo ≡ lookaheads s0
see_more s0 s todo count peeks peeks' seen h room = by_room (cases_lt count (length peeks))
  where
    by_room : (count < length peeks) ⊎ (length peeks ≤ count)
        → map peek_meant (take (count + 1) peeks') ++ map lookahead todo ≡ lookaheads s0
    by_room (inl fits) =
        let (p, (put, meant)) = seen.room fits in
        rw (
          put,
          take_more_set peeks count p fits,
          map-append peek_meant (take count peeks) (p ∷ []),
        )
        (append_assoc (map peek_meant (take count peeks)) (peek_meant p ∷ []) (map lookahead todo)
        ∙ ap (λ e. map peek_meant (take count peeks) ++ (e ∷ map lookahead todo)) meant
        ∙ h (omega (arith, fits)))
    by_room (inr full) = absurd (omega (arith, full, room, ap length (seen.full full)))

pub one_more : (input : List ℕ) (s0 s new : State) (todo : List State) (count used used' : ℕ)
    (found found' : FinderList) (steps steps' : List Step) (specs specs' : List SpecRecord)
    (peeks peeks' : List Peek) →
    IsUpTo input s0 (s ∷ todo) s count used found steps specs peeks
    → new ≡ state_after s (next_call s)
    → used' ≡ used + specs_in (given_piece s) →
    found'.calls ≡ add_finders count found.calls (next_call s).faults
    → found'.front_count ≡ found.front_count + fronts_in (next_call s) →
    IsAdded input (event s) count used' steps steps' specs'
    → take used specs' ≡ take used specs → length specs' ≡ length specs
    → IsSeen s count peeks peeks'
    → IsUpTo input s0 todo new (count + 1) used' found' steps' specs' peeks'
one_more input s0 s new todo count used used' found found' steps steps' specs specs' peeks peeks' h
    state more finders front_count added front long seen =
    let r = added.step in
    let put = added.put in
    let one = specs_in-le (given_piece s) in
    let wide : used ≤ used' = omega (arith, more) in
    record {
      counted = omega (arith, h.counted);
      specs_counted = omega (
        arith,
        h.specs_counted,
        more,
        sum_by-cons (λ (t : State). specs_in (given_piece t)) s todo,
      );
      fewer = omega (arith, h.fewer, more, one);
      state = rw state h.state;
      finders = rw (add-one, finders) h.finders;
      front_count = omega (
        arith,
        h.front_count,
        front_count,
        sum_by-cons fronts_in (next_call s) (map next_call todo),
      );
      few = put_few used used' steps steps' count r put wide added.few h.few;
      written = λ room specs_room.
          let there = put_length count steps steps' r put in
          let fits : count < length steps = omega (arith, there, room) in
          let in_specs : used' ≤ length specs' = omega (arith, long, specs_room) in
          let earlier = h.written (omega arith) (omega arith) in
          rw (
            put.0 fits,
            take_more_set steps count r fits,
            map-append (step_meant input specs') (take count steps) (r ∷ []),
          )
          (append_assoc (map (step_meant input specs') (take count steps))
          (step_meant input specs' r ∷ []) (map event todo)
          ∙ ap (λ l. l ++ (step_meant input specs' r ∷ map event todo))
          (same_meant input specs' specs used (take count steps) front h.few)
          ∙ ap (λ e. map (step_meant input specs) (take count steps)
          ++ (e ∷ map event todo)) (added.described in_specs)
          ∙ earlier);
      seen = see_more s0 s todo count peeks peeks' seen h.seen;
    }

-- From the start on.
pub added_on : (m : ℕ) (a b c : SpecBuffer) → a.count ≡ 0 → Adds b.count a b → Adds m b c
    → Adds c.count a c
added_on m a b c e h k = record {
  same = k.same ∙ h.same;
  room = k.room ∙ h.room;
  used = omega (arith, e);
  front = rw e refl;
  kept = k.kept ∙ still_after b.records.now a.records.now b.count c.count
      (omega (arith, k.used)) h.kept;
}

-- The records that were not written yet stay as they were.
pub kept_put : (input : List ℕ) (e : Event) (old new orig : List Step) (specs : List SpecRecord)
    (count used : ℕ)
    → IsAdded input e count used old new specs → drop count old ≡ drop count orig
    → drop (count + 1) new ≡ drop (count + 1) orig
kept_put input e old new orig specs count used added h =
    kept_after old new orig count (λ room. (added.step, added.put.0 room)) added.put.1 h

pub kept_seen : (s : State) (old new orig : List Peek) (count : ℕ) → IsSeen s count old new
    → drop count old ≡ drop count orig → drop (count + 1) new ≡ drop (count + 1) orig
kept_seen s old new orig count seen h =
    kept_after old new orig count (λ room. let (p, (put, _)) = seen.room room in (p, put)) seen.full
    h

-- A step describes its call.
pub described : (input : List ℕ) (specs : List SpecRecord) (r : Step) (s t : State)
    → t ≡ state_after s (next_call s) →
    piece_meant input (spec_at input specs r.spec) r
    ≡ option_map (piece_in s.world) (next_call s).piece → maybe_place r.has_place r.place
    ≡ closed_in s.world (next_call s).closes →
    r.offset ≡ position t.input t.rest → r.next_index ≡ t.next → r.lines ≡ length t.line_spans
    → step_meant input specs r ≡ event s
described input specs r s t state piece place read next lines =
    rw (piece, place, read, next, lines, state) refl

-- The call at the end gives nothing, finds nothing and closes nothing.
pub end_specs : (s : State) → s.rest ≡ [] → specs_in (given_piece s) ≡ 0
end_specs s e = ap (λ o. specs_in (option_map (piece_in s.world) o)) (at_end s e).0

pub end_stays : (s : State) → s.rest ≡ [] → s.world.has_source ≡ false
    → s ≡ state_after s (next_call s)
end_stays s e none =
    sym ((at_end s e).1 ∙ ap (λ b. record s {
      line_spans = if b && is_nil s.rest
          then with_last (s.line_start, s.world.end) s.line_spans else s.line_spans;
    }) none)

pub end_fronts : (s : State) → s.rest ≡ [] → fronts_in (next_call s) ≡ 0
end_fronts s e = rw (end_faults s e) refl

pub end_finders : (n : ℕ) (old : List ℕ) (s : State) → s.rest ≡ []
    → add_finders n old (next_call s).faults ≡ old
end_finders n old s e = rw (end_faults s e) refl

end_closes : (s : State) → s.rest ≡ [] → closed_in s.world (next_call s).closes ≡ None
unfolding call
end_closes s e = rw e (closed_in-none s.world)

pub no_piece : (input : List ℕ) (spec : Spec Place) (r : Step) → r.kind ≡ 0
    → piece_meant input spec r ≡ None
unfolding piece_meant
no_piece input spec r e = rw e refl

pub report_end : (input : List ℕ) (specs : List SpecRecord) (r : Step) (s t : State)
    → t ≡ state_after s (next_call s) → s.rest ≡ [] →
    piece_meant input (spec_at input specs r.spec) r ≡ None
    → maybe_place r.has_place r.place ≡ None
    → r.offset ≡ position t.input t.rest → r.next_index ≡ t.next →
    r.lines ≡ length t.line_spans → step_meant input specs r ≡ event s
report_end input specs r s t state e piece place read next lines =
    described input specs r s t state (piece
    ∙ sym (ap (option_map (piece_in s.world)) (at_end s e).0))
    (place ∙ sym (end_closes s e)) read next lines

-- As many finders as errors.
pub length-finders : (n : ℕ) (old : List ℕ) (s : State) (ks : List Call)
    → length old ≡ length s.errors → length (finders_from n old ks)
    ≡ length (after_all s ks).errors
length-finders n old s [] e = e
length-finders n old s (k ∷ ks) e =
    length-finders (suc n) (add_finders n old k.faults) (state_after s k) ks
    (omega (arith, length-add_finders n old k.faults, length-after s k, e))

pub begin : (input : List ℕ) (s : State) (found : FinderList) (steps : List Step)
    (specs : List SpecRecord) (peeks : List Peek) → found.calls ≡ [] → found.front_count ≡ 0 →
    IsUpTo input s (states s) s 0 0 found steps specs peeks
begin input s found steps specs peeks e f = record {
  counted = omega arith;
  specs_counted = omega arith;
  fewer = omega arith;
  state = refl;
  finders = rw e refl;
  front_count = omega (arith, f);
  few = tt;
  written = λ room specs_room. refl;
  seen = λ room. refl;
}
