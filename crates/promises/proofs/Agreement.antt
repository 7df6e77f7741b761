-- Any two outcomes that the contract of an open entry allows are equal: each crate's own theorems, collected.
use Rattle.bits.proofs.Agreement as of_bits
use Rattle.deck.proofs.Agreement as of_deck
use Rattle.tokens.proofs.Agreement as of_tokens
use Rattle.drafts.proofs.Agreement as of_drafts
use Rattle.grammar.proofs.Agreement as of_grammar
use Rattle.order.proofs.Agreement as of_order
use Rattle.records.proofs.Agreement as of_records
use Rattle.sheet.proofs.Agreement as of_sheet
use Rattle.blocks.proofs.Agreement as of_blocks
use Rattle.model.proofs.Agreement as of_model
use Rattle.program.proofs.Agreement as of_program
use Rattle.evaluator.proofs.Agreement as of_evaluator
use Rattle.translator.proofs.Agreement as of_translator
use Rattle.listing_text.proofs.Agreement as of_listing
use Rattle.floesedge.proofs.Agreement as of_library
use Rattle.tally.proofs.Agreement as of_tally
use Rattle.promises.specs.Agreement.{Bits, Deck, Tokens, Drafts, Grammar, Order, Records, Sheets, Blocks, Model}
use Rattle.promises.specs.Agreement.{Program}
use Rattle.promises.specs.Agreement.{Evaluator, Translator, Listing, Library, Counting}

pub bits : Bits
bits =
    record {
      wide = of_bits.wide;
      index = of_bits.index;
      byte_at = of_bits.byte_at;
      short_at = of_bits.short_at;
      word_at = of_bits.word_at;
      least = of_bits.least;
      room = of_bits.room;
      get_low = of_bits.get_low;
      put_bytes = of_bits.put_bytes;
      put_low = of_bits.put_low;
      put = of_bits.put;
      put_eight = of_bits.put_eight;
      float_of = of_bits.float_of;
      bits_of = of_bits.bits_of;
    }

pub deck : Deck
deck =
    record {
      next_statement = of_deck.next_statement;
      line_count = of_deck.line_count;
      size_fault = of_deck.size_fault;
      join = of_deck.join;
      find_spot = of_deck.find_spot;
    }

pub tokens : Tokens
tokens =
    record { take_cut = of_tokens.take_cut; row = of_tokens.row; token_place = of_tokens.token_place }

pub drafts : Drafts
drafts =
    record {
      is_defining = of_drafts.is_defining;
      is_asking = of_drafts.is_asking;
      is_use = of_drafts.is_use;
      is_named = of_drafts.is_named;
      is_closing = of_drafts.is_closing;
      records_of = of_drafts.records_of;
      last_of = of_drafts.last_of;
      home_of = of_drafts.home_of;
    }

pub grammar : Grammar
grammar = record { parse_row = of_grammar.parse_row }

pub order : Order
order = record { sort = of_order.sort }

pub records : Records
records = record { read = of_records.read; decode = of_records.decode }

pub sheet : Sheets
sheet = record { put_fault = of_sheet.put_fault }

pub blocks : Blocks
blocks =
    record { group = of_blocks.group; is_in_turn = of_blocks.is_in_turn; add_fault = of_blocks.add_fault }

pub model : Model
model = record { plan = of_model.plan }

pub programs : Program
programs =
    record {
      count_records = of_program.count_records;
      put_program = of_program.put_program;
      put_roster = of_program.put_roster;
    }

pub evaluator : Evaluator
evaluator =
    record {
      number = of_evaluator.number;
      place = of_evaluator.place;
      evaluate = of_evaluator.evaluate;
      start = of_evaluator.start;
      step = of_evaluator.step;
    }

pub translator : Translator
translator =
    record {
      number = of_translator.number;
      count = of_translator.count;
      translate = of_translator.translate;
      translate_in_order = of_translator.translate_in_order;
      names = of_translator.names;
    }

pub listing : Listing
listing = record { list = of_listing.list }

pub library : Library
library =
    record {
      floesedge_translate = of_library.floesedge_translate;
      floesedge_names = of_library.floesedge_names;
      floesedge_evaluate = of_library.floesedge_evaluate;
      floesedge_start = of_library.floesedge_start;
      floesedge_step = of_library.floesedge_step;
    }

pub counting : Counting
counting =
    record { none = of_tally.none; right = of_tally.right; number = of_tally.number; finish = of_tally.finish }
