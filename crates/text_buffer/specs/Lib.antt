-- what a reader must believe: the text of bytes, the bytes of a text, and a text as contracts see it
pub mod TextOfBytes
pub mod BytesOfText
pub mod TextSeen
-- what the code and proofs alone cite
pub mod Reading
