pub mod Agendas
pub mod Answering
