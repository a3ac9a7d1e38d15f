-- What the answer of the code says of a block, by what reading it gives.
use Rattle.std.proofs.Common.{◌≡◌, ℕ, ◌≤◌, ◌⊎◌, inl, inr, Result, Ok, Err, List, refl, sym, ap, ◌∙◌}
use Rattle.std.specs.Prelude.{IfOk, IfErr}
use Rattle.proto_wire.specs.Reading.{IsBytes}
use Rattle.proto_wire.proofs.Steps.{ok_is}
use Rattle.hpack_tables.specs.declared.header.Header.{Header}
use Rattle.hpack_tables.specs.declared.fault.HpackFault.{HpackFault}
use Rattle.hpack_tables.specs.declared.fault.HpackFault.TheVariants as faults
use Rattle.hpack_tables.specs.Table.{HeaderTable, list_size}
use Rattle.hpack_tables.specs.Block.{IsBlock, max_list}
use Rattle.hpack_tables.specs.Refusal.{IsRefusal}
use Rattle.hpack_tables.specs.Reading.{BlockFails, BlockGives, block_at}
use Rattle.hpack_tables.proofs.LawBlock.{block_takes, block_again}
use Rattle.hpack_tables.proofs.Refusals.{block_refused}

-- a refusal that is no want of memory is that of reading
fails : (e : HpackFault) (read : Result (List Header × HeaderTable) HpackFault) → BlockFails e read → (e ≡ faults.OutOfMemory) ⊎ (read ≡ Err e)
fails faults.OutOfMemory read h = inl refl
fails (faults.BadIndex at) read h = inr h
fails (faults.BadInt at) read h = inr h
fails (faults.BadHuffman at) read h = inr h
fails (faults.BadUpdate at) read h = inr h
fails (faults.Truncated at) read h = inr h
fails (faults.ListTooLong at) read h = inr h

abbrev Gives : Result (List Header) HpackFault → HeaderTable → Result (List Header × HeaderTable) HpackFault → Type 0
Gives r t' read = BlockGives (λ (headers : List Header). (headers, t')) r read

pub found : (t t' : HeaderTable) (block : List ℕ) (r : Result (List Header) HpackFault) → IsBytes block → Gives r t' (block_at t block) → IfOk r (λ (headers : List Header). IsBlock t block headers t' × (list_size headers ≤ max_list))
found t t' block (Ok headers) fits h = block_takes t t' block headers fits h
found t t' block (Err e) fits h = tt

pub refused : (t t' : HeaderTable) (block : List ℕ) (r : Result (List Header) HpackFault) → IsBytes block → Gives r t' (block_at t block) → IfErr r (λ (e : HpackFault). (e ≡ faults.OutOfMemory) ⊎ IsRefusal t block e)
refused t t' block (Ok headers) fits h = tt
refused t t' block (Err e) fits h = elim (fails e (block_at t block) h) [ inl none ↦ inl none | inr read ↦ block_refused t block e fits read ]

pub only : (t t' last : HeaderTable) (block : List ℕ) (headers : List Header) (r : Result (List Header) HpackFault) → Gives r t' (block_at t block) → IsBlock t block headers last → list_size headers ≤ max_list
    → (r ≡ Err faults.OutOfMemory) ⊎ ((r ≡ Ok headers) × (t' ≡ last))
only t t' last block headers (Ok given) h is small =
    let e = ok_is (given, t') (headers, last) (sym h ∙ block_again t last block headers is small) in
    inr (ap (λ (x : List Header × HeaderTable). Ok x.0) e, ap (λ (x : List Header × HeaderTable). x.1) e)
only t t' last block headers (Err e) h is small =
    elim (fails e (block_at t block) h) [
      | inl none ↦ inl (ap (λ (f : HpackFault). Err f) none)
      | inr read ↦ absurd (let again = block_again t last block headers is small in cc)
    ]
