-- What the first reading call read, if it read labels.
use Rattle.std.proofs.Common.{◌≡◌, ℕ, ◌≤◌, List, map, length, drop, Ok, refl, sym, ap, ◌∙◌, subst, arith}
use Rattle.std.proofs.lemmas.List.{length-append}
use Rattle.sheets.specs.Bytes.{Bytes}
use Rattle.sheets.specs.Items.{Reads, read, Answers, stop, places_from, Accepted, ItemsCall}
use Rattle.sheets.specs.Labels.{named}
use Rattle.sheets.specs.declared.place.LabelPlace.{LabelPlace}
use Rattle.sheets.proofs.Going.{length_places}
use Rattle.writing.specs.RoundTrips.{LabelsRead}

pub record Many (after : List LabelPlace) (n : ℕ) : Type 0 where
  pub some : 1 ≤ n
  pub few : n ≤ 256
  pub inside : n ≤ length after

labels_counted : {places : ℕ} {ls : List Bytes} {rest : Bytes} {n : ℕ} → Answers places ls rest (Ok n) → (1 ≤ n) × (n ≡ length ls)
labels_counted (stop st some) = (some, refl)

labels_got : {text : Bytes} {places n : ℕ} {ls : List Bytes} → Reads text places (Ok n) ls → Accepted ls × (1 ≤ n) × (n ≡ length ls)
labels_got (read ls rest short got) = let n = labels_counted got.answer in (got.accepted, n.0, n.1)

pub labels_many : {text : Bytes} {before after : List LabelPlace} {n : ℕ} → ItemsCall text before after (Ok n) → Many after n
labels_many {before = before} call =
    let got = labels_got call.reads in
    let ls = call.labels in
    let long = ap length call.filled ∙ length-append (places_from 0 ls) (drop (length ls) before) in
    record { some = got.1; few = omega (arith, got.2, got.0.few); inside = omega (arith, got.2, long, length_places 0 ls) }

pub labels_accepted : (text : Bytes) (places : List LabelPlace) → LabelsRead text places → Accepted (map (named text) places) × (1 ≤ length places) × (length places ≤ 256)
labels_accepted text places l =
    let are : map (named text) places ≡ l.call.labels = ap (map (named text)) l.first ∙ l.call.names in
    let n = labels_many l.call in
    (subst Accepted (sym are) (labels_got l.call.reads).0, n.some, n.few)
